-- How well a mirror is, in one word.
use Rattle.std.specs.Prelude.{ℕ, List, codes, ◌+◌}
use Rattle.nm_service.specs.declared.health.Ailments.{Ailments}
use Rattle.nm_service.specs.declared.health.Health.{Health}
use Rattle.nm_service.specs.declared.health.Health.TheVariants.{Good, Warning, Critical}

-- how many things are so bad that somebody has to act
abbrev pub grave : Ailments → ℕ
grave found = found.stopped + found.out + found.unread + found.failed_reads
    + found.differing + found.unsaved

-- how many things are not well, and may end by themselves
abbrev pub slight : Ailments → ℕ
slight found = found.copied + found.busy

-- the word of a monitoring check
abbrev pub word_of : Health → List ℕ
word_of Good = codes "OK"
word_of Warning = codes "WARNING"
word_of Critical = codes "CRITICAL"
