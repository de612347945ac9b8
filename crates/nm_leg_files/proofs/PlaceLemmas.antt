-- One place more, for one leg's file more.
use Rattle.std.proofs.Common.{◌≡◌, ℕ, zero, suc, arith, ◌+◌, ◌<◌, List, [], ◌∷◌, ◌++◌, IfSome, length, map, take, get_or, slice_get, refl, ap, sym, subst, ◌∙◌}
use Rattle.std.proofs.lemmas.List.{length-append, length-take, take_more}
use Rattle.nm_leg_files.specs.declared.leg_file.LegFile.{LegFile}
use Rattle.nm_leg_files.specs.declared.leg_files.LegFiles.{LegFiles}
use Rattle.nm_leg_files.specs.declared.leg_place.LegPlace.{LegPlace}
use Rattle.nm_leg_files.specs.declared.limited_file.LimitedFile.{LimitedFile}
use Rattle.nm_geometry.specs.Geometry.{Geometry}
use Rattle.nm_leg_files.specs.Files.{IsOfStripe, file_places, place_on}
use Rattle.nm_leg_files.specs.Files.{LegPlace as Place}
use Rattle.nm_leg_files.specs.Places.{KeptFile, kept_from, kept_in, kept_of}
use Rattle.nm_leg_files.proofs.Pushing.{one-row-more}

-- what is to be kept of one file more
kept-append : (files : LegFiles) (leg : ℕ) (before : List LegFile) (one : LegFile)
    → kept_from files leg (before ++ one ∷ []) ≡ kept_from files leg before ++ kept_of files (leg + length before) one ∷ []
kept-append files leg [] one = ap (λ (n : ℕ). kept_of files n one ∷ []) (omega arith)
kept-append files leg (file ∷ rest) one =
    ap (λ (all : List KeptFile). kept_of files leg file ∷ all)
    (kept-append files (leg + 1) rest one
    ∙ ap (λ (n : ℕ). kept_from files (leg + 1) rest ++ kept_of files n one ∷ []) (omega arith))

-- the place that was pushed keeps what is to be kept of the next file
pub place-more : (files : LegFiles) (all : List LegFile) (was now : List LegPlace) (one : LegPlace) (next : LegFile) (index : ℕ)
    → now ≡ was ++ one ∷ [] → index < length all → map kept_in was ≡ kept_from files 0 (take index all)
    → next ≡ get_or all index next → kept_in one ≡ kept_of files index next
    → map kept_in now ≡ kept_from files 0 (take (index + 1) all)
place-more files all was now one next index pushed inside so here is =
    one-row-more was now one kept_in (kept_from files 0 (take index all)) (kept_of files index (get_or all index next)) pushed so
    (is ∙ ap (kept_of files index) here)
    ∙ sym (ap (kept_from files 0) (take_more all index next inside)
    ∙ kept-append files 0 (take index all) (get_or all index next)
    ∙ ap (λ (n : ℕ). kept_from files 0 (take index all) ++ kept_of files n (get_or all index next) ∷ []) (omega (arith, length-take index all, inside)))

-- one element more, one number more
pub one-longer : {A : Type 0} (was now : List A) (one : A) (count : ℕ) → now ≡ was ++ one ∷ []
    → length was ≡ count → length now ≡ count + 1
one-longer was now one count pushed so = omega (arith, ap length pushed, length-append was (one ∷ []), so)

-- a leg that was made for a stripe is of that stripe
pub of-stripe : (stripe : ℕ) (shape : Geometry) (file : LegFile) (place : Place) → place ≡ place_on stripe shape file
    → IsOfStripe stripe shape place
of-stripe stripe shape file place is =
    is ∙ ap (λ (own : LimitedFile). record { file = own; user = stripe; stripe = stripe; shape = shape })
    (sym (ap (λ (p : Place). p.file) is))

-- what holds of each place by its number, and of one more, holds of all
each-more : (P : ℕ → Place → Type 0) (places : List Place) (one : Place) → ((number : ℕ) → IfSome (slice_get places number) (P number))
    → P (length places) one → (number : ℕ) → IfSome (slice_get (places ++ one ∷ []) number) (P number)
each-more P [] one each here zero = here
each-more P [] one each here (suc number) = tt
each-more P (first ∷ rest) one each here zero = each 0
each-more P (first ∷ rest) one each here (suc number) = each-more (λ k. P (suc k)) rest one (λ k. each (suc k)) here number

-- the legs on a file are those of all stripes
pub of-stripes : (stripes : ℕ) (shape : Geometry) (file : LegFile)
    → (length (file_places stripes shape file) ≡ stripes)
    × ((number : ℕ) → IfSome (slice_get (file_places stripes shape file) number) (IsOfStripe number shape))
of-stripes zero shape file = (refl, λ number. tt)
of-stripes (suc stripes) shape file =
    let before = of-stripes stripes shape file in
    let places = file_places stripes shape file in
    let one = place_on stripes shape file in (
      omega (arith, length-append places (one ∷ []), before.0),
      each-more (λ number. IsOfStripe number shape) places one before.1
          (subst (λ (number : ℕ). IsOfStripe number shape one) (sym before.0) refl),
    )
