-- What holds of a stripe's events holds of them once their blocks are moved: nothing tests a block.
use Rattle.std.proofs.Common.{◌≡◌, ℕ, suc, ◌==◌, Bool, true, false, List, [], ◌∷◌, ◌++◌, map, MatchBool, refl, ap, length}
use Rattle.nm_replay.specs.declared.entry.Entry.{Entry}
use Rattle.nm_replay.specs.declared.entry.Kind.{Kind}
use Rattle.nm_replay.specs.declared.entry.Kind.TheVariants.{Read, Write, Patch}
use Rattle.nm_replay.specs.Events.{Event, BeginsRead, BeginsWrite, Lands, RepliesRead, RepliesWrite, entries_of, marks_of}
use Rattle.nm_replay.specs.ReadLives.{ReadLife, ReadLives, ReadStep, ReadLands}
use Rattle.nm_replay.specs.WriteLives.{WriteLife, WriteLives, WriteStep, WriteLands}
use Rattle.nm_lanes.specs.Moved.{moved, moved_all, moved_entry, moved_write, moved_read}

pub entries-moved : (to : ℕ → ℕ) (es : List Event) → entries_of (moved_all to es) ≡ map (moved_entry to) (entries_of es)
entries-moved to [] = refl
entries-moved to (BeginsRead n b ∷ es) = entries-moved to es
entries-moved to (BeginsWrite t b v ∷ es) = entries-moved to es
entries-moved to (Lands e ∷ es) = ap (λ (xs : List Entry). moved_entry to e ∷ xs) (entries-moved to es)
entries-moved to (RepliesRead n v ∷ es) = entries-moved to es
entries-moved to (RepliesWrite t n ∷ es) = entries-moved to es

pub marks-moved : (to : ℕ → ℕ) (es : List Event) → marks_of (moved_all to es) ≡ moved_all to (marks_of es)
marks-moved to [] = refl
marks-moved to (BeginsRead n b ∷ es) = ap (λ (xs : List Event). moved to (BeginsRead n b) ∷ xs) (marks-moved to es)
marks-moved to (BeginsWrite t b v ∷ es) = ap (λ (xs : List Event). moved to (BeginsWrite t b v) ∷ xs) (marks-moved to es)
marks-moved to (Lands e ∷ es) = marks-moved to es
marks-moved to (RepliesRead n v ∷ es) = ap (λ (xs : List Event). moved to (RepliesRead n v) ∷ xs) (marks-moved to es)
marks-moved to (RepliesWrite t n ∷ es) = ap (λ (xs : List Event). moved to (RepliesWrite t n) ∷ xs) (marks-moved to es)

pub moved-append : (to : ℕ → ℕ) (es fs : List Event) → moved_all to (es ++ fs) ≡ moved_all to es ++ moved_all to fs
moved-append to [] fs = refl
moved-append to (e ∷ es) fs = ap (λ (xs : List Event). moved to e ∷ xs) (moved-append to es fs)

pub length-moved : (to : ℕ → ℕ) (es : List Entry) → length (map (moved_entry to) es) ≡ length es
length-moved to [] = refl
length-moved to (e ∷ es) = ap (λ (n : ℕ). suc n) (length-moved to es)

-- a stage that a test may bring about
stage-moved : {A : Type 0} (f : A → A) (test : Bool) (old new first last : A) → MatchBool test ((old ≡ first) × (new ≡ last)) (new ≡ old) → MatchBool test ((f old ≡ f first) × (f new ≡ f last)) (f new ≡ f old)
stage-moved f true old new first last h = (ap f h.0, ap f h.1)
stage-moved f false old new first last h = ap f h

write-lands : (to : ℕ → ℕ) (t : ℕ) (old new : WriteLife) (e : Entry) (kind : Kind) → WriteLands t old e kind new → WriteLands t (moved_write to old) (moved_entry to e) kind (moved_write to new)
write-lands to t old new e Read h = ap (moved_write to) h
write-lands to t old new e (Write other) h = stage-moved (moved_write to) (other == t) old new _ _ h
write-lands to t old new e (Patch other from len) h = stage-moved (moved_write to) (other == t) old new _ _ h

write-step : (to : ℕ → ℕ) (t : ℕ) (old new : WriteLife) (e : Event) → WriteStep t old e new → WriteStep t (moved_write to old) (moved to e) (moved_write to new)
write-step to t old new (BeginsRead n b) h = ap (moved_write to) h
write-step to t old new (BeginsWrite other b v) h = stage-moved (moved_write to) (other == t) old new _ _ h
write-step to t old new (Lands e) h = write-lands to t old new e e.kind h
write-step to t old new (RepliesRead n v) h = ap (moved_write to) h
write-step to t old new (RepliesWrite other n) h = stage-moved (moved_write to) (other == t) old new _ _ h

pub write-lives : (to : ℕ → ℕ) (t : ℕ) (old new : WriteLife) (es : List Event) → WriteLives t old es new → WriteLives t (moved_write to old) (moved_all to es) (moved_write to new)
write-lives to t old new [] h = ap (moved_write to) h
write-lives to t old new (e ∷ es) h = (moved_write to h.0, write-step to t old h.0 e h.1, write-lives to t h.0 new es h.2)

read-lands : (to : ℕ → ℕ) (old new : ReadLife) (e : Entry) (kind : Kind) → ReadLands old e kind new → ReadLands (moved_read to old) (moved_entry to e) kind (moved_read to new)
read-lands to old new e Read h = (ap (moved_read to) h.0, ap (moved_read to) h.1)
read-lands to old new e (Write other) h = (ap (moved_read to) h.0, ap (moved_read to) h.1)
read-lands to old new e (Patch other from len) h = (ap (moved_read to) h.0, ap (moved_read to) h.1)

read-landing : (to : ℕ → ℕ) (test : Bool) (old new : ReadLife) (e : Entry) (kind : Kind) → MatchBool test (ReadLands old e kind new) (new ≡ old) → MatchBool test (ReadLands (moved_read to old) (moved_entry to e) kind (moved_read to new)) (moved_read to new ≡ moved_read to old)
read-landing to true old new e kind h = read-lands to old new e kind h
read-landing to false old new e kind h = ap (moved_read to) h

read-step : (to : ℕ → ℕ) (n : ℕ) (old new : ReadLife) (e : Event) → ReadStep n old e new → ReadStep n (moved_read to old) (moved to e) (moved_read to new)
read-step to n old new (BeginsRead other b) h = stage-moved (moved_read to) (other == n) old new _ _ h
read-step to n old new (BeginsWrite t b v) h = ap (moved_read to) h
read-step to n old new (Lands e) h = read-landing to (e.seq == n) old new e e.kind h
read-step to n old new (RepliesRead other v) h = stage-moved (moved_read to) (other == n) old new _ _ h
read-step to n old new (RepliesWrite t m) h = ap (moved_read to) h

pub read-lives : (to : ℕ → ℕ) (n : ℕ) (old new : ReadLife) (es : List Event) → ReadLives n old es new → ReadLives n (moved_read to old) (moved_all to es) (moved_read to new)
read-lives to n old new [] h = ap (moved_read to) h
read-lives to n old new (e ∷ es) h = (moved_read to h.0, read-step to n old h.0 e h.1, read-lives to n h.0 new es h.2)
