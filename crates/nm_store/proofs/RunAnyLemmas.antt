-- Whether some block of the runs is under way.
use Rattle.std.proofs.Common.{◌≡◌, ℕ, ◌+◌, ◌<◌, ◌||◌, Bool, true, false, List, [], ◌∷◌, ◌++◌, Option, length, refl, ap, ◌∙◌, sym, arith, inl, inr}
use Rattle.std.specs.List.{list_any}
use Rattle.nm_fanout.specs.declared.record_data.RecordData.{RecordData}
use Rattle.nm_fanout.specs.declared.write_record.Record.{Record}
use Rattle.nm_fanout.specs.Record.{is_under_way}
use Rattle.nm_fanout.specs.Runs.{AllRuns, each_block, flat, laid_from, next_entry}
use Rattle.nm_fanout.proofs.Laying.{length-each}
use Rattle.nm_fanout.proofs.Owed.{tells}

idle-any : (run ticket block : ℕ) (owed : List Bool) (entry : Option ℕ) (ds : List RecordData)
    (ys : List Record) → list_any (λ (o : Bool). o) owed ≡ false
    → list_any is_under_way (laid_from run ticket block owed entry ds ++ ys)
    ≡ list_any is_under_way ys
idle-any run ticket block owed entry [] ys idle = refl
idle-any run ticket block owed entry (d ∷ ds) ys idle =
    let rest : Bool = list_any is_under_way
    (laid_from run (ticket + 1) (block + 1) owed (next_entry entry) ds ++ ys) in
    ap (λ (b : Bool). b || rest) idle
    ∙ idle-any run (ticket + 1) (block + 1) owed (next_entry entry) ds ys idle

going-any : (run ticket block : ℕ) (owed : List Bool) (entry : Option ℕ) (ds : List RecordData)
    (ys : List Record) → list_any (λ (o : Bool). o) owed ≡ true → 0 < length ds
    → list_any is_under_way (laid_from run ticket block owed entry ds ++ ys) ≡ true
going-any run ticket block owed entry [] ys going some = absurd (omega (arith, some))
going-any run ticket block owed entry (d ∷ ds) ys going some =
    let rest : Bool = list_any is_under_way
    (laid_from run (ticket + 1) (block + 1) owed (next_entry entry) ds ++ ys) in
    ap (λ (b : Bool). b || rest) going

-- one is where one of the runs is
pub flat-any : (rs : List Record) → AllRuns rs
    → list_any is_under_way (flat rs) ≡ list_any is_under_way rs
flat-any [] all = refl
flat-any (r ∷ rs) all =
    let some = all.0.filled.some in
    elim (tells (is_under_way r)) [
      | inl w ↦ going-any r.run r.ticket r.block r.owed r.entry (each_block r.data) (flat rs) w
          (omega (arith, some, length-each r.data))
          ∙ sym (ap (λ (b : Bool). b || list_any is_under_way rs) w)
      | inr w ↦ idle-any r.run r.ticket r.block r.owed r.entry (each_block r.data) (flat rs) w
          ∙ flat-any rs all.1
          ∙ sym (ap (λ (b : Bool). b || list_any is_under_way rs) w)
    ]
