-- Each run lies in one region, whatever it owes and whether it has its entry.
use Rattle.std.proofs.Common.{◌≡◌, ℕ, zero, suc, ◌+◌, ◌%◌, ◌<◌, ◌≤◌, ◌^◌, ◌==◌, true, false, cond, not, List, [], ◌∷◌, Some, is_none, subst, arith}
use Rattle.std.specs.List.{slice_get}
use Rattle.std.proofs.lemmas.Option.{same_Some}
use Rattle.nm_fanout.specs.declared.write_record.Record.{Record}
use Rattle.nm_fanout.specs.Record.{with_entry, without_leg}
use Rattle.nm_fanout.specs.RecordData.{blocks_in}
use Rattle.nm_fanout.specs.Records.{changed, landed, left_by, reached, with_new, without}
use Rattle.nm_fanout.specs.Runs.{runs_landed}
use Rattle.nm_rules.specs.declared.at.At.{At}
use Rattle.nm_rules.specs.Runs.{FitsRun}
use Rattle.nm_store.specs.Counting.{LieInRegions}
use Rattle.nm_store.specs.Inside.{AllFit}
use Rattle.nm_store.specs.Landing.{AreWords}

-- the run at a place does
pub fit-at : (p : At) (place : ℕ) (rs : List Record) (x : Record) → AllFit p rs
    → slice_get rs place ≡ Some x → FitsRun p x.block (blocks_in x.data)
fit-at p place [] x all there = absurd cc
fit-at p zero (r ∷ rs) x all there =
    subst (λ (y : Record). FitsRun p y.block (blocks_in y.data)) (same_Some r x there) all.0
fit-at p (suc place) (r ∷ rs) x all there = fit-at p place rs x all.2 there

-- a run does
abbrev Fits : At → Record → Type 0
Fits p r = FitsRun p r.block (blocks_in r.data) × (r.ticket + blocks_in r.data < 2 ^ 64)

fit-changed : (p : At) (f : Record → Record) → ((r : Record) → Fits p r → Fits p (f r)) → (t : ℕ)
    (rs : List Record) → AllFit p rs → AllFit p (changed f t rs)
fit-changed p f keeps t [] all = tt
fit-changed p f keeps t (r ∷ rs) all =
    (elim (r.ticket == t) as (λ b. AllFit p (cond b (f r) r ∷ changed f t rs)) [
      | true ↦
          let now = keeps r (all.0, all.1) in (now.0, now.1, fit-changed p f keeps t rs all.2)
      | false ↦ (all.0, all.1, fit-changed p f keeps t rs all.2)
    ])

pub fit-reached : (p : At) (t leg : ℕ) (rs : List Record) → AllFit p rs
    → AllFit p (reached t leg rs)
fit-reached p t leg rs all = fit-changed p (without_leg leg) (λ r fits. fits) t rs all

pub fit-landed : (p : At) (t number : ℕ) (rs : List Record) → AllFit p rs
    → AllFit p (landed t number rs)
fit-landed p t number rs all = fit-changed p (with_entry number) (λ r fits. fits) t rs all

pub fit-left : (p : At) (leg : ℕ) (rs : List Record) → AllFit p rs → AllFit p (left_by leg rs)
fit-left p leg [] all = tt
fit-left p leg (r ∷ rs) all = (all.0, all.1, fit-left p leg rs all.2)

pub fit-without : (p : At) (t : ℕ) (rs : List Record) → AllFit p rs → AllFit p (without t rs)
fit-without p t [] all = tt
fit-without p t (r ∷ rs) all =
    (elim (r.ticket == t) as (λ b. AllFit p (cond (not b) (r ∷ without t rs) (without t rs))) [
      | true ↦ fit-without p t rs all.2
      | false ↦ (all.0, all.1, fit-without p t rs all.2)
    ])

pub fit-landed_all : (p : At) (next : ℕ) (rs : List Record) → AllFit p rs
    → AllFit p (runs_landed next rs)
fit-landed_all p next [] all = tt
fit-landed_all p next (r ∷ rs) all =
    (elim (is_none r.entry) as (λ b. AllFit p (cond b (with_entry next r ∷ runs_landed (next + blocks_in r.data) rs) (r ∷ runs_landed next rs))) [
      | true ↦ (all.0, all.1, fit-landed_all p (next + blocks_in r.data) rs all.2)
      | false ↦ (all.0, all.1, fit-landed_all p next rs all.2)
    ])

-- the same told by the blocks alone
pub fit-lie : (p : At) (rs : List Record) → AllFit p rs → LieInRegions p.blocks p.region rs
fit-lie p [] all = tt
fit-lie p (r ∷ rs) all = (all.0.inside, all.0.one_region, fit-lie p rs all.2)

pub lie-at : (blocks size place : ℕ) (rs : List Record) (x : Record)
    → LieInRegions blocks size rs → slice_get rs place ≡ Some x
    → (x.block + blocks_in x.data ≤ blocks) × (x.block % size + blocks_in x.data ≤ size)
lie-at blocks size place [] x all there = absurd cc
lie-at blocks size zero (r ∷ rs) x all there =
    subst (λ (y : Record). (y.block + blocks_in y.data ≤ blocks) × (y.block % size + blocks_in y.data ≤ size)) (same_Some r x there) (all.0, all.1)
lie-at blocks size (suc place) (r ∷ rs) x all there = lie-at blocks size place rs x all.2 there

-- a run begins
pub fit-push : (p : At) (r : Record) (rs : List Record) → AllFit p rs
    → FitsRun p r.block (blocks_in r.data) → r.ticket + blocks_in r.data < 2 ^ 64
    → AllFit p (with_new r rs)
fit-push p r [] all fits word = (fits, word, tt)
fit-push p r (x ∷ rs) all fits word = (all.0, all.1, fit-push p r rs all.2 fits word)

-- tickets and places are words
pub fit-words : (p : At) (rs : List Record) → p.blocks < 2 ^ 64 → AllFit p rs → AreWords rs
fit-words p [] few all = tt
fit-words p (r ∷ rs) few all =
    let inside = all.0.inside in (all.1, omega (arith, inside, few), fit-words p rs few all.2)

pub words-at : (place : ℕ) (rs : List Record) (x : Record) → AreWords rs
    → slice_get rs place ≡ Some x
    → (x.ticket + blocks_in x.data < 2 ^ 64) × (x.block + blocks_in x.data < 2 ^ 64)
words-at place [] x all there = absurd cc
words-at zero (r ∷ rs) x all there =
    subst (λ (y : Record). (y.ticket + blocks_in y.data < 2 ^ 64) × (y.block + blocks_in y.data < 2 ^ 64)) (same_Some r x there) (all.0, all.1)
words-at (suc place) (r ∷ rs) x all there = words-at place rs x all.2 there

pub words-landed : (t number : ℕ) (rs : List Record) → AreWords rs → AreWords (landed t number rs)
words-landed t number [] all = tt
words-landed t number (r ∷ rs) all =
    (elim (r.ticket == t) as (λ b. AreWords (cond b (with_entry number r) r ∷ landed t number rs)) [
      | true ↦ (all.0, all.1, words-landed t number rs all.2)
      | false ↦ (all.0, all.1, words-landed t number rs all.2)
    ])
