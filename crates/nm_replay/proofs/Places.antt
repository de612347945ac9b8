-- The place of the last entry on each block, as it is noted entry by entry.
use Rattle.std.proofs.Common.{◌≡◌, ℕ, ◌+◌, ◌<◌, ◌≤◌, zero, suc, List, [], length, get_or, replicate, take, Some, refl, sym, ap, ◌∙◌, arith, add-one, inl, inr}
use Rattle.std.specs.Option.{option_map}
use Rattle.std.proofs.Math.ListN.{set, length-set}
use Rattle.std.proofs.lemmas.List.{get_or-set_same, get_or-set_other, take_more}
use Rattle.std.proofs.lemmas.Option.{slice_get-get_or}
use Rattle.std.proofs.lemmas.Bool.{cases_eq}
use Rattle.nm_replay.specs.declared.entry.Entry.{Entry}
use Rattle.nm_replay.specs.History.{last_on}
use Rattle.nm_replay.proofs.LastOn.{last_on-push_same, last_on-push_other}
use Rattle.nm_replay.specs.Following.{bytes_at}

pub zeros : (n b : ℕ) → get_or {A = ℕ} (replicate n 0) b 0 ≡ 0
zeros zero b = refl
zeros (suc n) zero = refl
zeros (suc n) (suc b) = zeros n b

pub none_marked : (places : List ℕ) (n : ℕ) (es : List Entry) → places ≡ replicate n 0 → (b : ℕ) →
    last_on b [] ≡ bytes_at (get_or places b 0) es
none_marked places n es e b =
    let nothing : get_or places b 0 ≡ 0 = ap (λ (xs : List ℕ). get_or xs b 0) e ∙ zeros n b in
    sym (ap (λ p. bytes_at p es) nothing)

pub within_marked : (places : List ℕ) (i block : ℕ) → block < length places →
    ((b : ℕ) → get_or places b 0 ≤ i) →
    (b : ℕ) → get_or (set places block (i + 1)) b 0 ≤ i + 1
within_marked places i block inside h b = elim (cases_eq b block) [
  | inl e ↦ rw (e, get_or-set_same places block (i + 1) 0 inside) (omega arith)
  | inr ne ↦ rw (get_or-set_other places block b (i + 1) 0 ne) (omega (arith, h b))
]

bytes_there : (es : List Entry) (i : ℕ) (d : Entry) → i < length es →
    bytes_at (i + 1) es ≡ Some (get_or es i d).bytes
bytes_there es i d inside = rw add-one
    (ap (option_map (λ e. e.bytes)) (slice_get-get_or es i d inside))

pub last_marked : (es : List Entry) (places : List ℕ) (i : ℕ) (d : Entry) → i < length es →
    (get_or es i d).block < length places →
    ((b : ℕ) → b < length places → last_on b (take i es) ≡ bytes_at (get_or places b 0) es) →
    (b : ℕ) → b < length (set places (get_or es i d).block (i + 1)) →
    last_on b (take (i + 1) es) ≡
    bytes_at (get_or (set places (get_or es i d).block (i + 1)) b 0) es
last_marked es places i d inside room h b within =
    let e : Entry = get_or es i d in
    let more = take_more es i d inside in
    let old : b < length places = rw (length-set places e.block (i + 1)) at within in
    elim (cases_eq b e.block) [
      | inl same ↦ ap (last_on b) more ∙ last_on-push_same b (take i es) e (sym same)
          ∙ sym (ap (λ p. bytes_at p es) (ap (λ k. get_or (set places e.block (i + 1)) k 0) same ∙
          get_or-set_same places e.block (i + 1) 0 room) ∙ bytes_there es i d inside)
      | inr other ↦ ap (last_on b) more ∙ last_on-push_other b (take i es) e (λ q. other (sym q)) ∙
          h b old
          ∙ sym (ap (λ p. bytes_at p es) (get_or-set_other places e.block b (i + 1) 0 other))
    ]
