-- The stripes are opened on the legs that were made for them.
use Rattle.std.proofs.Common.{Result, Ok, Err, map, ◌∙◌}
use Rattle.std.specs.Prelude.{IfOk}
use Rattle.std.proofs.lemmas.Simd.{map-map}
use Rattle.nm_leg_files.specs.Files.{leg_place}
use Rattle.nm_starts.proofs.starting.open_on_files.Goals as goal

-- what is so wherever there is a result of which another fact holds
ok-too : {T E : Type 0} (P Q : T → Type 0) (result : Result T E) → ((t : T) → P t → Q t) → IfOk result P → IfOk result Q
ok-too P Q (Ok t) more held = more t held
ok-too P Q (Err e) more held = held

pub returns-clause-opened : goal.returns-clause-opened
returns-clause-opened c =
    ok-too _ _ c.open_asked.result
    (λ stripes opened. record {
      legs = map (λ own. own.items) c.in-Ok.legs.items;
      places = map-map (map (λ leg. leg_place leg.medium leg.stripe leg.shape)) (λ own. own.items) c.in-Ok.legs.items
          ∙ c.in-Ok.ensures;
      opened = opened;
    })
    c.open_asked.ensures.opened
