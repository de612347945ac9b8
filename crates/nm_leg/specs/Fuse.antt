-- Which of the calls to come fail.
use Rattle.std.specs.Prelude.{ℕ, Bool, false, ◌==◌, nat_le}
use Rattle.nm_leg.specs.declared.fuse.Fuse.{Fuse}
use Rattle.nm_leg.specs.declared.fuse.Fuse.TheVariants.{Never, Once, From}

-- whether the call of this number fails, the next being the first
abbrev pub fails_at : ℕ → Fuse → Bool
fails_at call Never = false
fails_at call (Once only) = call == only
fails_at call (From first) = nat_le first call
