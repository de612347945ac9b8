-- What a run that has reached its leg leaves, in one piece.
use Rattle.std.proofs.Common.{◌≡◌, ℕ, ◌+◌, ◌==◌, ◌&&◌, ◌||◌, Bool, true, false, List, [], ◌∷◌, length, refl, sym, ap, ◌∙◌, arith, cond, is_none}
use Rattle.std.specs.List.{list_any}
use Rattle.nm_fanout.proofs.Owed.{is_under_way-without_leg}
use Rattle.nm_fanout.specs.declared.write_record.Record.{Record}
use Rattle.nm_fanout.specs.Record.{is_under_way, without_leg, with_entry}
use Rattle.nm_fanout.specs.Records.{changed, landed, reached}
use Rattle.nm_replay.specs.Kept.{KeptEntries, kept_with}
use Rattle.nm_rules.specs.Push.{lands_at, write_entry}
use Rattle.nm_rules.specs.RunPush.{land_each, reach_each, run_entries, run_landed, run_reached}
use Rattle.nm_rules.specs.State.{StripeState, next_number}
use Rattle.nm_rules.proofs.KeptLemmas.{kept-append}
use Rattle.nm_rules.proofs.RunPushSteps.{after_each, after_one}
use Rattle.nm_rules.proofs.SettledLemmas.{neither}

-- of each of these records it is told so whether it lands, where this leg is the master
abbrev pub AllLand : Bool → ℕ → ℕ → List Record → Type 0
AllLand lands leg master [] = Unit {0}
AllLand lands leg master (r ∷ rs) =
    (((leg == master) && is_none r.entry) ≡ lands) × AllLand lands leg master rs

-- a change that ends no idle leaves what is idle
idle-changed : (f : Record → Record) → ((r : Record) → is_under_way r ≡ false → is_under_way (f r) ≡ false) → (t : ℕ) (rs : List Record) → list_any is_under_way rs ≡ false → list_any is_under_way (changed f t rs) ≡ false
idle-changed f idle t [] none = refl
idle-changed f idle t (r ∷ rs) none =
    let parts = neither (is_under_way r) (list_any is_under_way rs) none in
    let here : is_under_way (cond (r.ticket == t) (f r) r) ≡ false =
    elim (r.ticket == t) as (λ b. is_under_way (cond b (f r) r) ≡ false) [ true ↦ idle r parts.0 | false ↦ parts.0 ] in
    ap (λ (b : Bool). b || list_any is_under_way (changed f t rs)) here ∙ idle-changed f idle t rs parts.1

idle-reached : (leg t : ℕ) (rs : List Record) → list_any is_under_way rs ≡ false → list_any is_under_way (reached t leg rs) ≡ false
idle-reached leg t rs none = idle-changed (without_leg leg) (λ r over. is_under_way-without_leg leg r over) t rs none

idle-landed : (leg t number : ℕ) (rs : List Record) → list_any is_under_way rs ≡ false → list_any is_under_way (landed t number (reached t leg rs)) ≡ false
idle-landed leg t number rs none = idle-changed (with_entry number) (λ r over. over) t (reached t leg rs) (idle-reached leg t rs none)

idle-reach_each : (leg : ℕ) (qs rs : List Record) → list_any is_under_way rs ≡ false → list_any is_under_way (reach_each leg qs rs) ≡ false
idle-reach_each leg [] rs none = none
idle-reach_each leg (q ∷ qs) rs none = idle-reach_each leg qs (reached q.ticket leg rs) (idle-reached leg q.ticket rs none)

idle-land_each : (leg next : ℕ) (qs rs : List Record) → list_any is_under_way rs ≡ false → list_any is_under_way (land_each leg next qs rs) ≡ false
idle-land_each leg next [] rs none = none
idle-land_each leg next (q ∷ qs) rs none = idle-land_each leg (next + 1) qs (landed q.ticket next (reached q.ticket leg rs)) (idle-landed leg q.ticket next rs none)

-- settling that goes on to the end went on all the while
settles : (settling before after : Bool) → (before ≡ false → after ≡ false) → ((settling && before) && after) ≡ (settling && after)
settles true true after stays = refl
settles true false after stays = sym (stays refl)
settles false before after stays = refl

-- one block that does not land, and one that does
one-stays : {L : Type 0} (old : StripeState L) (legs : List L) (r : Record) (leg : ℕ) → lands_at leg r old ≡ false → after_one old legs r leg ≡ run_reached old legs (r ∷ []) leg
one-stays {L} old legs r leg stays =
    let one : Bool → StripeState L = λ b.
    let records = cond b (landed r.ticket (next_number old) (reached r.ticket leg old.records)) (reached r.ticket leg old.records) in
    let s : StripeState L = record old { legs = legs; records = records; kept = cond b (kept_with (write_entry (next_number old) r ∷ []) old.kept) old.kept; total = cond b (old.total + 1) old.total; settling = old.settling && list_any is_under_way records } in s in
    ap one stays

one-lands : {L : Type 0} (old : StripeState L) (legs : List L) (r : Record) (leg : ℕ) → lands_at leg r old ≡ true → after_one old legs r leg ≡ run_landed old legs (r ∷ []) leg
one-lands {L} old legs r leg lands =
    let one : Bool → StripeState L = λ b.
    let records = cond b (landed r.ticket (next_number old) (reached r.ticket leg old.records)) (reached r.ticket leg old.records) in
    let s : StripeState L = record old { legs = legs; records = records; kept = cond b (kept_with (write_entry (next_number old) r ∷ []) old.kept) old.kept; total = cond b (old.total + 1) old.total; settling = old.settling && list_any is_under_way records } in s in
    ap one lands

pub run-stays : {L : Type 0} (legs : List L) (leg : ℕ) (rs : List Record) (r : Record) (old : StripeState L) → AllLand false leg old.master (r ∷ rs) → after_each old legs (r ∷ rs) leg ≡ run_reached old legs (r ∷ rs) leg
run-stays legs leg [] r old all = one-stays old legs r leg all.0
run-stays {L} legs leg (q ∷ qs) r old all =
    let first = reached r.ticket leg old.records in
    let last = reach_each leg (q ∷ qs) first in
    ap (λ (s : StripeState L). after_each s legs (q ∷ qs) leg) (one-stays old legs r leg all.0)
    ∙ run-stays legs leg qs q (run_reached old legs (r ∷ []) leg) all.1
    ∙ ap (λ (b : Bool). let s : StripeState L = record old { legs = legs; records = last; settling = b } in s)
    (settles old.settling (list_any is_under_way first) (list_any is_under_way last) (idle-reach_each leg (q ∷ qs) first))

pub run-lands : {L : Type 0} (legs : List L) (leg : ℕ) (rs : List Record) (r : Record) (old : StripeState L) → AllLand true leg old.master (r ∷ rs) → after_each old legs (r ∷ rs) leg ≡ run_landed old legs (r ∷ rs) leg
run-lands legs leg [] r old all = one-lands old legs r leg all.0
run-lands {L} legs leg (q ∷ qs) r old all =
    let first = landed r.ticket (next_number old) (reached r.ticket leg old.records) in
    let next : old.first + (old.total + 1) ≡ next_number old + 1 = omega arith in
    let records : land_each leg (old.first + (old.total + 1)) (q ∷ qs) first ≡ land_each leg (next_number old) (r ∷ (q ∷ qs)) old.records = ap (λ (n : ℕ). land_each leg n (q ∷ qs) first) next in
    let kept : kept_with (run_entries (old.first + (old.total + 1)) (q ∷ qs)) (kept_with (write_entry (next_number old) r ∷ []) old.kept) ≡ kept_with (run_entries (next_number old) (r ∷ (q ∷ qs))) old.kept =
    ap (λ (n : ℕ). kept_with (run_entries n (q ∷ qs)) (kept_with (write_entry (next_number old) r ∷ []) old.kept)) next
    ∙ kept-append old.kept (write_entry (next_number old) r ∷ []) (run_entries (next_number old + 1) (q ∷ qs)) in
    let total : old.total + 1 + length (q ∷ qs) ≡ old.total + length (r ∷ (q ∷ qs)) = omega arith in
    let last = land_each leg (old.first + (old.total + 1)) (q ∷ qs) first in
    ap (λ (s : StripeState L). after_each s legs (q ∷ qs) leg) (one-lands old legs r leg all.0)
    ∙ run-lands legs leg qs q (run_landed old legs (r ∷ []) leg) all.1
    ∙ ap (λ (b : Bool). let s : StripeState L = record old { legs = legs; records = last; kept = kept_with (run_entries (old.first + (old.total + 1)) (q ∷ qs)) (kept_with (write_entry (next_number old) r ∷ []) old.kept); total = old.total + 1 + length (q ∷ qs); settling = b } in s)
    (settles old.settling (list_any is_under_way first) (list_any is_under_way last) (idle-land_each leg (old.first + (old.total + 1)) (q ∷ qs) first))
    ∙ ap (λ (xs : List Record). let s : StripeState L = record old { legs = legs; records = xs; kept = kept_with (run_entries (old.first + (old.total + 1)) (q ∷ qs)) (kept_with (write_entry (next_number old) r ∷ []) old.kept); total = old.total + 1 + length (q ∷ qs); settling = old.settling && list_any is_under_way xs } in s) records
    ∙ ap (λ (es : KeptEntries). let s : StripeState L = record old { legs = legs; records = land_each leg (next_number old) (r ∷ (q ∷ qs)) old.records; kept = es; total = old.total + 1 + length (q ∷ qs); settling = old.settling && list_any is_under_way (land_each leg (next_number old) (r ∷ (q ∷ qs)) old.records) } in s) kept
    ∙ ap (λ (n : ℕ). let s : StripeState L = record old { legs = legs; records = land_each leg (next_number old) (r ∷ (q ∷ qs)) old.records; kept = kept_with (run_entries (next_number old) (r ∷ (q ∷ qs))) old.kept; total = n; settling = old.settling && list_any is_under_way (land_each leg (next_number old) (r ∷ (q ∷ qs)) old.records) } in s) total
