-- Going through a list of legs, one after the other, as a `map` does.
use Rattle.std.proofs.Common.{◌≡◌, ℕ, ◌+◌, ◌<◌, List, [], ◌∷◌, ◌++◌, length, map, take, drop, set, get_or, sym, ap, ◌∙◌, arith}
use Rattle.std.proofs.lemmas.List.{append_assoc, drop_more, map_more, set_at, get_or_at, length-map, length-take-le}

-- the element at a place is changed as those before it are
pub map-step : {X : Type 0} (f : X → X) (old now : List X) (i : ℕ) (d : X) → i < length old
    → now ≡ map f (take i old) ++ drop i old
    → set now i (f (get_or now i d)) ≡ map f (take (i + 1) old) ++ drop (i + 1) old
map-step f old now i d lt is =
    let front : length (map f (take i old)) ≡ i =
    length-map (take i old) f ∙ length-take-le i old (omega arith) in
    let whole : now ≡ map f (take i old) ++ get_or old i d ∷ drop (i + 1) old =
    is ∙ ap (λ rest. map f (take i old) ++ rest) (drop_more old i d lt) in
    let same : get_or now i d ≡ get_or old i d = ap (λ l. get_or l i d) whole
    ∙ get_or_at (map f (take i old)) (get_or old i d) (drop (i + 1) old) d i front in
    ap (λ y. set now i (f y)) same ∙ ap (λ l. set l i (f (get_or old i d))) whole
    ∙ set_at (map f (take i old)) (get_or old i d) (drop (i + 1) old) (f (get_or old i d)) i front
    ∙ sym (append_assoc (map f (take i old)) (f (get_or old i d) ∷ []) (drop (i + 1) old))
    ∙ ap (λ l. l ++ drop (i + 1) old) (sym (map_more f old i d lt))
