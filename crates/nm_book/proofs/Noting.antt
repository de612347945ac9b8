-- What a pass knows once it has noted an entry: of the seats' views alone.
use Rattle.std.proofs.Common.{◌≡◌, ℕ, List, [], ◌∷◌, ◌++◌, true, refl, ap, sym, ◌∙◌, subst, Option}
use Rattle.std.specs.Prelude.{IfSome}
use mathlib.Core.List.{IsPrefix}
use Rattle.atomic_table.specs.Table.{State, Allows}
use Rattle.nm_book.specs.declared.rule.Entry.{Entry}
use Rattle.nm_book.specs.declared.rule.Role.TheVariants.{Idle, Keeps}
use Rattle.nm_book.specs.declared.rule.View.{View}
use Rattle.nm_book.specs.Log.{of_shard, calls_by, entry, IsLegal, all_of, shard_of, view, as_keeper, as_pass, Adds, MayAdd, NotesOn, KeeperView, PassView, Kept, Observes, SeesOn, meeting}
use Rattle.nm_book.proofs.Lists.{calls_own, none_since}
use Rattle.nm_book.proofs.Moves.{adds, observes}

module _ {E : Type 0} (legal : ℕ → List E → Type 0) where
  pub adds_as : (slots by : ℕ) (v : View E) (none : List (ℕ × Unit {0})) → none ≡ [] → (picked : Option E) → MayAdd legal picked v
      → Allows (λ (x : State (Unit {0}) (View E)). Kept legal x.views) slots by (v, none) 0 (λ n. n)
      (λ n m. IfSome picked (λ what. Adds legal (shard_of v.role) what v m.0) × (m.1 ≡ []))
  adds_as slots by v none is picked may =
      subst (λ (o : Option E). Allows (λ (x : State (Unit {0}) (View E)). Kept legal x.views) slots by (v, none) 0 (λ n. n) (λ n m. IfSome o (λ what. Adds legal (shard_of v.role) what v m.0) × (m.1 ≡ [])))
      (sym may.2.1)
      (subst (λ (l : List (ℕ × Unit {0})). Allows (λ (x : State (Unit {0}) (View E)). Kept legal x.views) slots by (v, l) 0 (λ n. n) (λ n m. Adds legal (shard_of v.role) may.2.0 v m.0 × (m.1 ≡ [])))
      (sym is)
      (adds legal slots by v (shard_of v.role) (all_of v.role) may.2.0 may.1 may.0 may.2.2))

  -- all that is known of the pass and of the keeper afterwards
  pub record Noted (what : E) (old : PassView E) (keeper : KeeperView E) (added left : View E) : Type 0 where
    pub notes : NotesOn legal keeper what old (record { who = left.who; seen = left.seen; mine = left.mine })
    pub pass_is : left ≡ as_pass left.who left.seen left.mine
    pub own : calls_by left.who left.seen ≡ left.mine
    pub role : added.role ≡ Keeps keeper.shard (keeper.all ++ entry old.who keeper.shard what ∷ [])

  pub noted : (what : E) (old : PassView E) (keeper : KeeperView E) (p k j a r : View E)
      → p ≡ as_pass old.who old.seen old.mine → k ≡ as_keeper keeper.shard keeper.all
      → j ≡ view p.acts p.who k.role p.seen p.heard p.mine
      → Adds legal (shard_of j.role) what j a
      → r ≡ view a.acts a.who Idle a.seen a.heard a.mine
      → calls_by old.who old.seen ≡ old.mine
      → Noted what old keeper a r
  noted what old keeper p k j a r p_is k_is j_is add r_is own_before = record {
    notes = record {
      between = added.0;
      who = ap (λ (v : View E). v.who) r_full;
      seen = ap (λ (v : View E). v.seen) r_full;
      mine = ap (λ (v : View E). v.mine) r_full;
      own = none_since old.who old.seen added.0 old.mine own_before added.4;
      all = added.2;
      is_legal = subst (λ (v : View E). IsLegal legal v.seen) (sym r_full) added.3;
    };
    pass_is = subst (λ (v : View E). v ≡ as_pass v.who v.seen v.mine) (sym r_full) refl;
    own = subst (λ (v : View E). calls_by v.who v.seen ≡ v.mine) (sym r_full) (calls_own (old.seen ++ added.0) e old.who refl ∙ ap (λ (l : List (Entry E)). l ++ e ∷ []) added.4);
    role = ap (λ (v : View E). v.role) added.1;
  }
    where
      e : Entry E
      e = entry old.who keeper.shard what

      j1 : View E
      j1 = view true old.who (Keeps keeper.shard keeper.all) old.seen [] old.mine

      j_full : j ≡ j1
      j_full = j_is ∙ (ap (λ (v : View E). view v.acts v.who k.role v.seen v.heard v.mine) p_is ∙ ap (λ (v : View E). view true old.who v.role old.seen [] old.mine) k_is)

      added : Adds legal keeper.shard what j1 a
      added = subst (λ (v : View E). Adds legal (shard_of v.role) what v a) j_full add

      r_full : r ≡ view true old.who Idle ((old.seen ++ added.0) ++ e ∷ []) [] (old.mine ++ e ∷ [])
      r_full = r_is ∙ ap (λ (v : View E). view v.acts v.who Idle v.seen v.heard v.mine) added.1

  pub observes_as : (slots by : ℕ) (v : View E) (none : List (ℕ × Unit {0})) → none ≡ []
      → Allows (λ (x : State (Unit {0}) (View E)). Kept legal x.views) slots by (v, none) 0 (λ n. n)
      (λ n m. Observes legal v m.0 × (m.1 ≡ []))
  observes_as slots by v none is =
      subst (λ (l : List (ℕ × Unit {0})). Allows (λ (x : State (Unit {0}) (View E)). Kept legal x.views) slots by (v, l) 0 (λ n. n) (λ n m. Observes legal v m.0 × (m.1 ≡ [])))
      (sym is) (observes legal slots by v)

  -- all that is known of a pass that saw the log as it is, having heard of a beginning
  pub record Seen (old : PassView E) (heard : List (Entry E)) (left : View E) : Type 0 where
    pub sees : SeesOn legal old (record { who = left.who; seen = left.seen; mine = left.mine })
    pub pass_is : left ≡ as_pass left.who left.seen left.mine
    pub own : calls_by left.who left.seen ≡ left.mine
    pub goes_on : IsPrefix heard left.seen

  pub seen : (old : PassView E) (heard : List (Entry E)) (p r : View E)
      → p ≡ view true old.who Idle old.seen heard old.mine → Observes legal p r → calls_by old.who old.seen ≡ old.mine → Seen old heard r
  seen old heard p r p_is o own_before = record {
    sees = record {
      more = ob.0;
      who = ap (λ (v : View E). v.who) ob.1;
      seen = ap (λ (v : View E). v.seen) ob.1;
      mine = ap (λ (v : View E). v.mine) ob.1;
      own = none_since old.who old.seen ob.0 old.mine own_before (ob.4 refl).0;
      is_legal = subst (λ (v : View E). IsLegal legal v.seen) (sym ob.1) ob.3;
    };
    pass_is = subst (λ (v : View E). v ≡ as_pass v.who v.seen v.mine) (sym ob.1) refl;
    own = subst (λ (v : View E). calls_by v.who v.seen ≡ v.mine) (sym ob.1) (ob.4 refl).0;
    goes_on = subst (λ (v : View E). IsPrefix heard v.seen) (sym ob.1) ob.2;
  }
    where
      ob : Observes legal (view true old.who Idle old.seen heard old.mine) r
      ob = subst (λ (v : View E). Observes legal v r) p_is o

  -- all that is known of a pass and of a keeper that looked together
  pub record Looked (old : PassView E) (keeper : KeeperView E) (between left : View E) : Type 0 where
    pub sees : SeesOn legal old (record { who = left.who; seen = left.seen; mine = left.mine })
    pub pass_is : left ≡ as_pass left.who left.seen left.mine
    pub own : calls_by left.who left.seen ≡ left.mine
    pub all : keeper.all ≡ of_shard keeper.shard left.seen
    pub role : between.role ≡ Keeps keeper.shard keeper.all

  pub looked : (old : PassView E) (keeper : KeeperView E) (p k j a r : View E)
      → p ≡ as_pass old.who old.seen old.mine → k ≡ as_keeper keeper.shard keeper.all
      → j ≡ view p.acts p.who k.role p.seen p.heard p.mine
      → Observes legal j a
      → r ≡ view a.acts a.who Idle a.seen a.heard a.mine
      → calls_by old.who old.seen ≡ old.mine
      → Looked old keeper a r
  looked old keeper p k j a r p_is k_is j_is o r_is own_before = record {
    sees = record {
      more = ob.0;
      who = ap (λ (v : View E). v.who) r_full;
      seen = ap (λ (v : View E). v.seen) r_full;
      mine = ap (λ (v : View E). v.mine) r_full;
      own = none_since old.who old.seen ob.0 old.mine own_before (ob.4 refl).0;
      is_legal = subst (λ (v : View E). IsLegal legal v.seen) (sym r_full) ob.3;
    };
    pass_is = subst (λ (v : View E). v ≡ as_pass v.who v.seen v.mine) (sym r_full) refl;
    own = subst (λ (v : View E). calls_by v.who v.seen ≡ v.mine) (sym r_full) (ob.4 refl).0;
    all = ob.5 keeper.shard refl ∙ ap (λ (v : View E). of_shard keeper.shard v.seen) (sym r_full);
    role = ap (λ (v : View E). v.role) ob.1;
  }
    where
      j1 : View E
      j1 = view true old.who (Keeps keeper.shard keeper.all) old.seen [] old.mine

      ob : Observes legal j1 a
      ob = subst (λ (v : View E). Observes legal v a) (j_is ∙ (ap (λ (v : View E). view v.acts v.who k.role v.seen v.heard v.mine) p_is ∙ ap (λ (v : View E). view true old.who v.role old.seen [] old.mine) k_is)) o

      r_full : r ≡ view true old.who Idle (old.seen ++ ob.0) [] old.mine
      r_full = r_is ∙ ap (λ (v : View E). view v.acts v.who Idle v.seen v.heard v.mine) ob.1

  pub met : (old : PassView E) (p w r : View E)
      → p ≡ meeting (as_pass old.who old.seen old.mine) w → Observes legal p r → calls_by old.who old.seen ≡ old.mine → Seen old w.seen r
  met old p w r p_is o own_before = record {
    sees = record {
      more = ob.0;
      who = ap (λ (v : View E). v.who) ob.1;
      seen = ap (λ (v : View E). v.seen) ob.1;
      mine = ap (λ (v : View E). v.mine) ob.1;
      own = none_since old.who old.seen ob.0 old.mine own_before (ob.4 refl).0;
      is_legal = subst (λ (v : View E). IsLegal legal v.seen) (sym ob.1) ob.3;
    };
    pass_is = subst (λ (v : View E). v ≡ as_pass v.who v.seen v.mine) (sym ob.1) refl;
    own = subst (λ (v : View E). calls_by v.who v.seen ≡ v.mine) (sym ob.1) (ob.4 refl).0;
    goes_on = subst (λ (v : View E). IsPrefix w.seen v.seen) (sym ob.1) ob.2;
  }
    where
      ob : Observes legal (meeting (as_pass old.who old.seen old.mine) w) r
      ob = subst (λ (v : View E). Observes legal v r) p_is o
