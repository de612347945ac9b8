-- Both rounds of a save, one after the other.
use Rattle.std.proofs.Common.{◌≡◌, ◌⊎◌, ⊎_elim, inl, inr, ℕ, ◌+◌, ◌<◌, ◌&&◌, ◌||◌, List, Option, None, Some, Bool, true, false, not, if◌then◌else◌, sym, ap, ◌∙◌, subst, refl, slice_index}
use Rattle.nm_geometry.specs.LegSets.{HasSome, has}
use Rattle.nm_superblock.specs.declared.superblock.Superblock.{Superblock}
use Rattle.std.specs.declared.io.Error.{Error}
use Rattle.nm_saves.specs.Errors.{KeepsErrors, KeepsFirst, error_of}
use Rattle.nm_saves.specs.FileState.{FileState}
use Rattle.nm_saves.specs.Files.{AreNamed, AreOthers, IsSeenAfter, SavesBeside, SavesTo, copy_of, file_of, newest_of, round_of}
use Rattle.nm_saves.specs.SavingAll.{FilesState, IsDone, IsUndone, Request, next_of}
use Rattle.nm_saves.proofs.ErrorLemmas.{kept-same, same-kept}

not-true : (b : Bool) → (b ≡ true → ⊥) → b ≡ false
not-true true never = absurd (never refl)
not-true false never = refl

-- a file in which a save was done has the superblock
saved-newest : (honest : Bool) (leg : ℕ) (s : Superblock) (old new : Option FileState) → SavesBeside honest true leg s old new
    → newest_of new ≡ Some (copy_of leg s)
saved-newest honest leg s None new (never, is) = absurd (cc)
saved-newest honest leg s (Some f) new (g, is, saves) =
    let taken = saves.saves (λ refused. let never = (saves.refused refused).0 in absurd (cc)) in
    ap newest_of is ∙ taken.newest refl

-- a leg that is named gets it in the first round, and the second passes it by
other-of-named : (n o t : Bool) → n ≡ true → t ≡ not n && not o → t ≡ false
other-of-named true o t named is = is
other-of-named false o t named is = absurd (cc)

-- one that is not named gets it in the second, unless it is out
other-is-to : (n o t : Bool) → t ≡ not n && not o → n ≡ false → o ≡ false → t ≡ true
other-is-to true o t is away in_it = absurd (cc)
other-is-to false true t is away in_it = absurd (cc)
other-is-to false false t is away in_it = is

other-is-by : (n o t : Bool) → t ≡ not n && not o → o ≡ true → t ≡ false
other-is-by true o t is out_it = is
other-is-by false true t is out_it = is
other-is-by false false t is out_it = absurd (cc)

-- which generation is seen
seen-of : (n o l : Bool) (x g s : ℕ) → x ≡ (if n || (o && not l) then g else s)
    → ((n ≡ true) × (x ≡ g)) ⊎ (((o ≡ true) × (l ≡ false) × (x ≡ g)) ⊎ (x ≡ s))
seen-of true o l x g s is = inl (refl, is)
seen-of false true true x g s is = inr (inr is)
seen-of false true false x g s is = inr (inl (refl, refl, is))
seen-of false false l x g s is = inr (inr is)

seen-named : (n o l : Bool) (x g s : ℕ) → n ≡ true → x ≡ (if n || (o && not l) then g else s) → x ≡ g
seen-named true o l x g s named is = is
seen-named false o l x g s named is = absurd (cc)

not-not : (b : Bool) → not (not b) ≡ b
not-not true = refl
not-not false = refl

-- a leg beside which a round did not fail keeps its error
unfailed-same : (leg : ℕ) (failed : List Bool) (old new : List (Option Error)) → has leg failed ≡ false → KeepsErrors failed old new
    → error_of leg new ≡ error_of leg old
unfailed-same leg failed old new fine keeps =
    kept-same (error_of leg old) (error_of leg new) (subst (λ (b : Bool). KeepsFirst b (error_of leg old) (error_of leg new)) fine (keeps leg))

-- a save that was not done
pub undone : (honest : Bool) (r : Request) (named failed : List Bool) (old new : FilesState) (next : Superblock)
    → next ≡ next_of old r → AreNamed 8 r.sets named → SavesTo 8 honest (round_of next named failed) old.files new.files
    → KeepsErrors failed old.errors new.errors
    → HasSome failed → new.highest ≡ old.highest + 1 → new.image ≡ old.image → IsUndone honest r failed old new
undone honest r named failed old new next is are saves keeps some highest image = record {
  named = λ leg below it. (
    subst (λ (s : Superblock). SavesBeside honest (not (has leg failed)) leg s (file_of leg old.files) (file_of leg new.files)) is
        ((saves.passed leg below).0 ((are leg below).1 it)),
    subst (λ (b : Bool). KeepsFirst b (error_of leg old.errors) (error_of leg new.errors)) (sym (not-not (has leg failed))) (keeps leg),
  );
  others = λ leg below not_it.
      let by = (saves.passed leg below).1 (not-true (has leg named) (λ told_so. not_it ((are leg below).0 told_so))) in (
        by.0,
        (by.1, unfailed-same leg failed old.errors new.errors by.0 keeps),
      );
  some = some;
  generation = highest;
  image = image;
}

-- what a save makes of a leg that is named
named-gets : (honest : Bool) (leg : ℕ) (r : Request) (named failed others lacking : List Bool) (old new : FilesState)
    (mid : List (Option FileState)) (next : Superblock) → leg < 8
    → SavesTo 8 honest (round_of next named failed) old.files mid → (HasSome failed → ⊥)
    → AreOthers 8 named r.out others → SavesTo 8 honest (round_of next others lacking) mid new.files
    → has leg named ≡ true → SavesBeside honest true leg next (file_of leg old.files) (file_of leg new.files)
named-gets honest leg r named failed others lacking old new mid next below first never are second it =
    let fine = not-true (has leg failed) (λ bad. never (leg, below, bad)) in
    let saves = (first.passed leg below).0 it in
    let away = other-of-named (has leg named) (has leg r.out) (has leg others) it (are leg below) in
    let same = ((second.passed leg below).1 away).1 in
    subst (λ (f : Option FileState). SavesBeside honest true leg next (file_of leg old.files) f) (sym same)
    (subst (λ (b : Bool). SavesBeside honest b leg next (file_of leg old.files) (file_of leg mid)) (ap not fine) saves)

-- and of another one to which the second round goes
other-gets : (honest : Bool) (leg : ℕ) (named failed others lacking : List Bool) (old new : FilesState)
    (mid : List (Option FileState)) (next : Superblock) → leg < 8
    → SavesTo 8 honest (round_of next named failed) old.files mid → SavesTo 8 honest (round_of next others lacking) mid new.files
    → has leg named ≡ false → has leg others ≡ true
    → SavesBeside honest (not (has leg lacking)) leg next (file_of leg old.files) (file_of leg new.files)
other-gets honest leg named failed others lacking old new mid next below first second it to =
    let same = ((first.passed leg below).1 it).1 in
    subst (λ (f : Option FileState). SavesBeside honest (not (has leg lacking)) leg next f (file_of leg new.files)) same
    ((second.passed leg below).0 to)

-- or does not go
other-left : (honest : Bool) (leg : ℕ) (named failed others lacking : List Bool) (old new : FilesState)
    (mid : List (Option FileState)) (next : Superblock) → leg < 8
    → SavesTo 8 honest (round_of next named failed) old.files mid → SavesTo 8 honest (round_of next others lacking) mid new.files
    → has leg named ≡ false → has leg others ≡ false → file_of leg new.files ≡ file_of leg old.files
other-left honest leg named failed others lacking old new mid next below first second it away =
    ((second.passed leg below).1 away).1 ∙ ((first.passed leg below).1 it).1

-- a leg to which the second round goes is not named
other-not-named : (n o t : Bool) → t ≡ not n && not o → t ≡ true → n ≡ false
other-not-named true o t is to = absurd (cc)
other-not-named false o t is to = refl

-- a save that was done
pub is-done : (honest : Bool) (r : Request) (named failed others lacking : List Bool) (old new : FilesState)
    (mid : List (Option FileState)) (next : Superblock) (kept : List (Option Error))
    → KeepsErrors failed old.errors kept → KeepsErrors lacking kept new.errors
    → next ≡ next_of old r → AreNamed 8 r.sets named
    → SavesTo 8 honest (round_of next named failed) old.files mid → (HasSome failed → ⊥)
    → AreOthers 8 named r.out others → SavesTo 8 honest (round_of next others lacking) mid new.files
    → IsSeenAfter 8 named (round_of next others lacking) new.image.seen
    → new.highest ≡ old.highest + 1 → new.image ≡ record (next_of old r) { seen = new.image.seen }
    → IsDone honest r old new
is-done honest r named failed others lacking old new mid next kept keeps_first keeps_second is are first never are_others second seen highest image =
    let as_next = λ (leg : ℕ) (done : Bool). λ (saves : SavesBeside honest done leg next (file_of leg old.files) (file_of leg new.files)).
    subst (λ (s : Superblock). SavesBeside honest done leg s (file_of leg old.files) (file_of leg new.files)) is saves in
    let same_first = λ (leg : ℕ). λ (below : leg < 8).
    unfailed-same leg failed old.errors kept (not-true (has leg failed) (λ bad. never (leg, below, bad))) keeps_first in
    let keeps = λ (leg : ℕ). λ (below : leg < 8).
    subst (λ (b : Bool). KeepsFirst b (error_of leg old.errors) (error_of leg new.errors)) (sym (not-not (has leg lacking)))
    (subst (λ (e : Option Error). KeepsFirst (has leg lacking) e (error_of leg new.errors)) (same_first leg below) (keeps_second leg)) in
    let passed = λ (leg : ℕ). λ (below : leg < 8). λ (by : has leg others ≡ false).
    unfailed-same leg lacking kept new.errors ((second.passed leg below).1 by).0 keeps_second ∙ same_first leg below in
    let number : next.generation ≡ old.highest + 1 = ap (λ (s : Superblock). s.generation) is in
    let before : next.seen ≡ old.image.seen = ap (λ (s : Superblock). s.seen) is in
    let newest = λ (leg : ℕ). λ (saves : SavesBeside honest true leg next (file_of leg old.files) (file_of leg new.files)).
    saved-newest honest leg (next_of old r) (file_of leg old.files) (file_of leg new.files) (as_next leg true saves) in
    record {
      named = λ leg below it.
          let named_it = (are leg below).1 it in (
            as_next leg true
                (named-gets honest leg r named failed others lacking old new mid next below first never are_others second named_it),
            same-kept (error_of leg old.errors) (error_of leg new.errors)
                (passed leg below (other-of-named (has leg named) (has leg r.out) (has leg others) named_it (are_others leg below))),
          );
      others = λ leg below not_it in_it.
          let away = not-true (has leg named) (λ told_so. not_it ((are leg below).0 told_so)) in
          let to = other-is-to (has leg named) (has leg r.out) (has leg others) (are_others leg below) away in_it in (
            not (has leg lacking),
            (
              as_next leg (not (has leg lacking))
                  (other-gets honest leg named failed others lacking old new mid next below first second away to),
              keeps leg below,
            ),
          );
      out = λ leg below not_it out_it.
          let away = not-true (has leg named) (λ told_so. not_it ((are leg below).0 told_so)) in
          let by = other-is-by (has leg named) (has leg r.out) (has leg others) (are_others leg below) out_it in
          (other-left honest leg named failed others lacking old new mid next below first second away by, passed leg below by);
      generation = highest;
      image = image;
      seen_named = λ leg below it.
          seen-named (has leg named) (has leg others) (has leg lacking) (slice_index new.image.seen leg) next.generation (slice_index next.seen leg)
          ((are leg below).1 it) (seen leg below) ∙ number;
      seen = λ leg below. ⊎_elim
          (λ it. inr (
            it.1 ∙ number,
            newest leg
                (named-gets honest leg r named failed others lacking old new mid next below first never are_others second it.0),
          ))
          (λ rest. ⊎_elim
          (λ to. inr (
            to.2 ∙ number,
            newest leg
                (subst (λ (b : Bool). SavesBeside honest b leg next (file_of leg old.files) (file_of leg new.files)) (ap not to.1)
                (other-gets honest leg named failed others lacking old new mid next below first second
                (other-not-named (has leg named) (has leg r.out) (has leg others) (are_others leg below) to.0) to.0)),
          ))
          (λ was. inl (was ∙ ap (λ (xs : List ℕ). slice_index xs leg) before))
          rest)
          (seen-of (has leg named) (has leg others) (has leg lacking) (slice_index new.image.seen leg) next.generation (slice_index next.seen leg)
          (seen leg below));
    }

-- what a test that failed says
pub not-so : {P : Type 0} (b : Bool) → (P → b ≡ true) → b ≡ false → P → ⊥
not-so b so is p =
    let never = so p in
    absurd (cc)
