-- What was found beside a listed leg is no newer than the newest, and was read there.
use Rattle.std.proofs.Common.{◌≡◌, ◌≤◌, ℕ, Option, None, Some, refl, subst}
use Rattle.nm_superblock.specs.declared.superblock.Superblock.{Superblock}
use Rattle.nm_assemble.specs.Saves.{ReadsAt}
use Rattle.nm_assemble.specs.Start.{beside}
use Rattle.nm_assemble.specs.Sure.{SureStartIsSure}

pub sure-start : SureStartIsSure
sure-start saves stripe found newest e bound one written read most sure =
    record {
      saved = one;
      read = λ leg listed.
          let at = written.listed leg listed in
          (elim (beside leg found) as (λ (o : Option Superblock). beside leg found ≡ o
          → (generation : ℕ) × (generation ≤ e.generation) × ReadsAt leg generation saves) [
            | None ↦ λ is. absurd (sure leg stripe at.0 bound at.1 is)
            | Some s ↦ λ is. (
              s.generation,
              subst (λ (n : ℕ). s.generation ≤ n) written.generation (most.greatest leg s at.0 is),
              read leg s at.0 is,
            )
          ]) refl;
    }
