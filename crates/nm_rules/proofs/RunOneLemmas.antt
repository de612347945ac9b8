-- A run of one block may begin where the block may, and be read where the block may: so steps on a part of
-- a block are steps on a run.
use Rattle.std.proofs.Common.{◌≡◌, ℕ, ◌+◌, ◌^◌, ◌<◌, Bool, false, Option, None, refl, ap, ◌∙◌, arith, cond, nat_le}
use Rattle.std.specs.Option.{option_map, option_or}
use Rattle.std.proofs.lemmas.Bool.Decides.{nat_tests}
use Rattle.nm_fanout.specs.declared.write_record.Record.{Record}
use Rattle.nm_fanout.specs.Records.{busy_on, runs_in, unlanded}
use Rattle.nm_regions.specs.declared.copy_place.CopyPlace.{CopyPlace}
use Rattle.nm_rules.specs.declared.refusal.Refusal.{Refusal}
use Rattle.nm_rules.specs.declared.refusal.Refusal.TheVariants.{Busy, Copying, Exhausted, Full, Settling, Stopped}
use Rattle.nm_rules.specs.Begin.{begin_cause, copying_on, is_full}
use Rattle.nm_rules.specs.Cause.{when}
use Rattle.nm_rules.specs.RunBegin.{begin_run_cause}
use Rattle.nm_rules.specs.State.{StripeState, is_exhausted, next_number}
use Rattle.nm_rules.proofs.RunBeginLemmas.{may_begin_run}

not_least : (a b : ℕ) → b < a → nat_le a b ≡ false
not_least a b low = grind (arith, nat_tests)

-- where a run of one block may begin, a write of the block may
pub one-begins : {L : Type 0} (s : StripeState L) (block : ℕ) → begin_run_cause s block 1 ≡ None → begin_cause s block ≡ None
one-begins s block none =
    let m = (may_begin_run s block 1 none).may in
    let busy : Option Refusal → Option Refusal = λ rest. option_or (option_map (λ (r : Record). Busy r.run) (busy_on block s.records)) rest in
    let room_left : is_full s ≡ false = not_least 256 (runs_in s.records) (m.few refl) in
    let numbers : is_exhausted s ≡ false = not_least (2 ^ 63) (next_number s + unlanded s.records) (omega (arith, m.below)) in
    let last : Option Refusal = option_or (when (is_exhausted s) Exhausted) None in
    let full : Option Refusal = option_or (when (is_full s) Full) last in
    let copying : Option Refusal = option_or (copying_on block s) full in
    ap (λ (b : Bool). option_or (when b Stopped) (option_or (when s.settling Settling) (busy copying))) m.runs
    ∙ ap (λ (b : Bool). option_or (when b Settling) (busy copying)) m.not_settling
    ∙ ap (λ (o : Option Record). option_or (option_map (λ (r : Record). Busy r.run) o) copying) (m.free block (omega arith) (omega arith))
    ∙ ap (λ (b : Bool). option_or (cond b (option_map (λ (c : CopyPlace). Copying c.leg) s.copy) None) full) (m.not_copied_now block (omega arith) (omega arith))
    ∙ ap (λ (b : Bool). option_or (when b Full) last) room_left
    ∙ ap (λ (b : Bool). option_or (when b Exhausted) None) numbers
