-- One target more, for one pass more.
use Rattle.std.proofs.Common.{◌≡◌, ℕ, zero, suc, arith, ◌+◌, ◌<◌, List, [], ◌∷◌, ◌++◌, length, map, take, get_or, All, Bool, true, ◌||◌, ◌&&◌, cond, ap, sym, ◌∙◌}
use Rattle.std.proofs.lemmas.List.{map-append, map_more, take_more}
use Rattle.std.proofs.lemmas.List.Elements.{All-append}
use Rattle.std.proofs.lemmas.List.Folds.{list_all-append, list_any-append}
use Rattle.std.proofs.Math.Bool.{or-false}
use Rattle.std.specs.List.{list_all, list_any}

-- where the push succeeded, the list has one element more
pub has-one-more : {A : Type 0} (is_pushed : Bool) (was now : List A) (one : A)
    → is_pushed ≡ true → now ≡ cond is_pushed (was ++ one ∷ []) was → now ≡ was ++ one ∷ []
has-one-more is_pushed was now one went pushed = rw went at pushed

-- its own of the parts are one more too
pub one-more : {A B : Type 0} (was now : List A) (one : A) (own : A → B) (all : List B) (index : ℕ)
    → now ≡ was ++ one ∷ [] → index < length all → map own was ≡ take index all
    → own one ≡ get_or all index (own one) → map own now ≡ take (index + 1) all
one-more was now one own all index pushed inside so is =
    rw pushed (map-append own was (one ∷ []) ∙ (ap (λ list. list ++ own one ∷ []) so
    ∙ (ap (λ last. take index all ++ last ∷ []) is ∙ sym (take_more all index (own one) inside))))

all-one : {A : Type 0} (P : A → Type 0) (one : A) → P one → All P (one ∷ [])
all-one P one here zero d inside = here
all-one P one here (suc k) d inside = absurd (omega arith)

-- what holds of each element, and of one more, holds of all
pub all-more : {A : Type 0} (was now : List A) (one : A) (P : A → Type 0) → now ≡ was ++ one ∷ []
    → All P was → P one → All P now
all-more was now one P pushed all here =
    rw pushed (All-append P was (one ∷ []) all (all-one P one here))

-- what each element tells, of one more, is one row more
pub one-row-more : {A B : Type 0} (was now : List A) (one : A) (tells : A → B) (rows : List B) (row : B)
    → now ≡ was ++ one ∷ [] → map tells was ≡ rows → tells one ≡ row → map tells now ≡ rows ++ row ∷ []
one-row-more was now one tells rows row pushed so is =
    rw pushed (map-append tells was (one ∷ []) ∙ (ap (λ list. list ++ tells one ∷ []) so
    ∙ ap (λ last. rows ++ last ∷ []) is))

-- elements that were made from those of another list, in its order, and one more from the next
pub one-made-more : {A B C : Type 0} (was now : List A) (one : A) (tells : A → B) (wants : C → B) (all : List C) (next : C) (index : ℕ)
    → now ≡ was ++ one ∷ [] → index < length all → map tells was ≡ map wants (take index all)
    → next ≡ get_or all index next → tells one ≡ wants next
    → map tells now ≡ map wants (take (index + 1) all)
one-made-more was now one tells wants all next index pushed inside so here is =
    one-row-more was now one tells (map wants (take index all)) (wants (get_or all index next)) pushed so (is ∙ ap wants here)
    ∙ sym (map_more wants all index next inside)

-- whether some element passes a test, with one more
pub any-more : {A : Type 0} (was now : List A) (one : A) (test : A → Bool) (before after : Bool)
    → now ≡ was ++ one ∷ [] → before ≡ list_any test was → after ≡ (before || test one)
    → after ≡ list_any test now
any-more was now one test before after pushed so is =
    rw pushed (is ∙ (ap (λ some. some || test one) so
    ∙ (ap (λ last. list_any test was || last) (sym (or-false (test one)))
    ∙ sym (list_any-append test was (one ∷ [])))))

-- whether each element does
pub all-pass-more : {A : Type 0} (was now : List A) (one : A) (test : A → Bool)
    → now ≡ was ++ one ∷ [] → list_all test was ≡ true → test one ≡ true → list_all test now ≡ true
all-pass-more was now one test pushed so is =
    rw pushed (list_all-append test was (one ∷ [])
    ∙ (ap (λ all. all && list_all test (one ∷ [])) so ∙ ap (λ last. last && true) is))
