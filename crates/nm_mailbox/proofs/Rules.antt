-- Each step of an end keeps the rule: it changes what that end alone knows.
use Rattle.std.proofs.Common.{◌≡◌, ◌≢◌, ℕ, zero, suc, true, false, true≢false, List, [], ◌∷◌, ◌++◌, length, set, sym, refl, ap, ◌∙◌, subst, ⊎_elim, append_assoc}
use Rattle.std.proofs.lemmas.List.{append-nil}
use mathlib.Core.Option.{some, some-ne-none}
use lib.ListN.{get_elem?}
use Rattle.crossbeam_channel.specs.Fifo.{Pushes, Pops, Forks, Merges, Learns}
use Rattle.atomic_table.proofs.Lists.{at_set, at_snoc}
use Rattle.nm_mailbox.specs.declared.message.Piece.{Piece}
use Rattle.nm_mailbox.specs.declared.message.Message.{Message}
use Rattle.nm_mailbox.specs.declared.message.Message.TheVariants as message
use Rattle.nm_mailbox.specs.declared.rule.Log.{Log}
use Rattle.nm_mailbox.specs.Messages.{pieces_of}
use Rattle.nm_mailbox.specs.Rule.{log, bystander, sending_half, receiving_half, whole, HasSent, HasReceived, Accounts, Knows, Delivers}

module _ {O : Type 0} where
  pub pieces_append : (xs ys : List (Message O)) → pieces_of (xs ++ ys) ≡ pieces_of xs ++ pieces_of ys
  pieces_append [] ys = refl
  pieces_append (message.Piece piece ∷ xs) ys = ap (λ (l : List Piece). piece ∷ l) (pieces_append xs ys)
  pieces_append (message.Outcome _ ∷ xs) ys = pieces_append xs ys

  at_end : (l : List (Log O)) (a b : Log O) (j : ℕ) → get_elem? l j ≢ some b → get_elem? (l ++ a ∷ []) j ≡ some b → j ≡ length l
  at_end [] a b zero n e = refl
  at_end [] a b (suc j) n e = absurd (some-ne-none b (sym e))
  at_end (x ∷ xs) a b zero n e = absurd (n e)
  at_end (x ∷ xs) a b (suc j) n e = ap suc (at_end xs a b j n e)

  abbrev Each : (ℕ → Log O → Type 0) → List (Log O) → Type 0
  Each F logs = (end : ℕ) (v : Log O) → get_elem? logs end ≡ some v → F end v

  each_set : (F : ℕ → Log O → Type 0) (logs : List (Log O)) (end : ℕ) (w : Log O) → F end w → ((j : ℕ) (u : Log O) → j ≢ end → get_elem? logs j ≡ some u → F j u) → Each F (set logs end w)
  each_set F logs end w mine others j u e = ⊎_elim (λ (x : (j ≡ end) × (w ≡ u)). subst (λ (y : ℕ × Log O). F y.0 y.1) (λ i. (sym x.0 i, x.1 i)) mine)
      (λ (x : (j ≢ end) × (get_elem? logs j ≡ some u)). others j u x.0 x.1) (at_set logs end j w u e)

  pub begins : Delivers {O = O} [] (log true true [] [] [] ∷ [])
  begins = (0, 0, [], [], refl, each_set (Knows 0 0 [] []) (log true true [] [] [] ∷ []) 0 (log true true [] [] []) ((λ _. (refl, refl)), λ _. (refl, refl)) (λ j u other e. absurd (other (at_end [] _ u j (λ x. some-ne-none u (sym x)) e))))

  pub sends : (n end : ℕ) (v : Log O) (piece : Piece) → v.sends ≡ true → Pushes Delivers n end v (message.Piece piece) (HasSent v (message.Piece piece))
  sends n end v piece may items logs _ h at = let w : Log O = log v.sends v.receives (v.pieces ++ piece ∷ []) (v.outcomes ++ []) v.received in let mine = h.5 end v at in let sent = h.2 ++ piece ∷ [] in (
    w,
    (
      h.0,
      h.1,
      sent,
      h.3,
      ap (λ (l : List Piece). l ++ piece ∷ []) h.4 ∙ append_assoc (pieces_of h.3) (pieces_of items) (piece ∷ []) ∙ ap (λ (l : List Piece). pieces_of h.3 ++ l) (sym (pieces_append items (message.Piece piece ∷ []))),
      each_set (Knows h.0 h.1 sent h.3) logs end w ((λ _. ((mine.0 may).0, ap (λ (l : List Piece). l ++ piece ∷ []) (mine.0 may).1)), mine.1)
          (λ j u other e. ((λ p. absurd (other (((h.5 j u e).0 p).0 ∙ sym (mine.0 may).0))), (h.5 j u e).1)),
    ),
    refl,
  )

  pub tells : (n end : ℕ) (v : Log O) (outcome : O) → v.sends ≡ false → Pushes Delivers n end v (message.Outcome outcome) (HasSent v (message.Outcome outcome))
  tells n end v outcome may items logs _ h at = let w : Log O = log v.sends v.receives (v.pieces ++ []) (v.outcomes ++ outcome ∷ []) v.received in let mine = h.5 end v at in (
    w,
    (
      h.0,
      h.1,
      h.2,
      h.3,
      h.4 ∙ ap (λ (l : List Piece). pieces_of h.3 ++ l) (sym (pieces_append items (message.Outcome outcome ∷ []) ∙ append-nil (pieces_of items))),
      each_set (Knows h.0 h.1 h.2 h.3) logs end w ((λ p. absurd (true≢false (sym p ∙ may))), mine.1) (λ j u other e. h.5 j u e),
    ),
    refl,
  )

  pub gets : (end : ℕ) (v : Log O) → v.receives ≡ true → Pops Delivers end v (HasReceived v)
  gets end v may x items logs h at = let w : Log O = log v.sends v.receives v.pieces v.outcomes (v.received ++ x ∷ []) in let mine = h.5 end v at in let got = h.3 ++ x ∷ [] in (
    w,
    (
      h.0,
      h.1,
      h.2,
      got,
      h.4 ∙ sym (pieces_append h.3 (x ∷ items)) ∙ ap pieces_of (sym (append_assoc h.3 (x ∷ []) items)) ∙ pieces_append got items,
      each_set (Knows h.0 h.1 h.2 got) logs end w (mine.0, λ _. ((mine.1 may).0, ap (λ (l : List (Message O)). l ++ x ∷ []) (mine.1 may).1))
          (λ j u other e. ((h.5 j u e).0, λ p. absurd (other (((h.5 j u e).1 p).0 ∙ sym (mine.1 may).0)))),
    ),
    refl,
  )

  pub forks : (end : ℕ) (v : Log O) → v.sends ≡ true → v.receives ≡ true → Forks Delivers end v (sending_half v) (receiving_half v)
  forks end v a b items logs h at = let l : Log O = sending_half v in let r : Log O = receiving_half v in let mine = h.5 end v at in let vs : List (Log O) = set logs end l in
      let Old : ℕ → Log O → Type 0 = λ j u. (u.sends ≡ true → (j ≡ h.0) × (u.pieces ≡ h.2)) × (u.receives ≢ true) in
      let old : Each Old vs = each_set Old logs end l ((λ _. mine.0 a), λ p. true≢false (sym p)) (λ j u other e. ((h.5 j u e).0, λ p. other (((h.5 j u e).1 p).0 ∙ sym (mine.1 b).0))) in (
        h.0,
        length vs,
        h.2,
        h.3,
        h.4,
        λ j u e. ⊎_elim (λ x. ((old j u x).0, λ p. absurd ((old j u x).1 p)))
            (λ (is : r ≡ u). ((λ p. absurd (true≢false (sym (ap (λ (y : Log O). y.sends) is ∙ p)))), λ p. (at_end vs r u j (λ x. (old j u x).1 p) e, ap (λ (y : Log O). y.received) (sym is) ∙ (mine.1 b).1))) (at_snoc vs r u j e),
      )

  pub hires : (end : ℕ) (v : Log O) → Forks Delivers end v v bystander
  hires end v items logs h at = let vs : List (Log O) = set logs end v in
      let Knew : ℕ → Log O → Type 0 = Knows h.0 h.1 h.2 h.3 in
      let old : Each Knew vs = each_set Knew logs end v (h.5 end v at) (λ j u other e. h.5 j u e) in (
        h.0,
        h.1,
        h.2,
        h.3,
        h.4,
        λ j u e. ⊎_elim (λ x. old j u x) (λ (is : bystander ≡ u). ((λ p. absurd (true≢false (sym (ap (λ (y : Log O). y.sends) is ∙ p)))), λ p. absurd (true≢false (sym (ap (λ (y : Log O). y.receives) is ∙ p))))) (at_snoc vs bystander u j e),
      )

  pub merges : (end : ℕ) (v : Log O) (other : ℕ) (u : Log O) → v.receives ≡ true → u.sends ≡ true → Merges Delivers end v other u (whole u v) bystander
  merges end v other u a b items logs h at two at' = let both : Log O = whole u v in let mine = h.5 end v at in let vs : List (Log O) = set logs end both in
      let was : get_elem? logs other ≡ some u = ⊎_elim (λ x. absurd (two x.0)) (λ x. x.1) (at_set logs end other both u at') in let theirs = (h.5 other u was).0 b in
      let Now : ℕ → Log O → Type 0 = λ j y. j ≢ other → Knows end end h.2 h.3 j y in
      let now : Each Now vs = each_set Now logs end both (λ _. ((λ _. (refl, theirs.1)), λ _. (refl, (mine.1 a).1))) (λ j y _ e apart. ((λ p. absurd (apart (((h.5 j y e).0 p).0 ∙ sym theirs.0))), λ p. let k = (h.5 j y e).1 p in (k.0 ∙ sym (mine.1 a).0, k.1))) in
      (end, end, h.2, h.3, h.4, each_set (Knows end end h.2 h.3) vs other bystander ((λ p. absurd (true≢false (sym p))), λ p. absurd (true≢false (sym p))) (λ j y apart e. now j y e apart))

  pub totals : (end : ℕ) (v : Log O) → v.sends ≡ true → v.receives ≡ true → Learns Delivers end v (Accounts v)
  totals end v a b items logs h at = let mine = h.5 end v at in (mine.0 a).1 ∙ h.4 ∙ ap (λ (l : List (Message O)). pieces_of l ++ pieces_of items) (sym (mine.1 b).1)
