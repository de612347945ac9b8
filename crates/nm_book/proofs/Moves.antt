-- Each move keeps the log.
use Rattle.std.proofs.Common.{◌≡◌, ◌≢◌, ℕ, zero, suc, ◌+◌, ◌≤◌, ◌<◌, ◌⊎◌, inl, inr, ⊎_elim, List, [], ◌∷◌, ◌++◌, length, set, true, false, refl, ap, sym, ◌∙◌, subst, arith, eq-eqb, ne_eqb}
use Rattle.std.specs.Prelude.{◌==◌, if◌then◌else◌, IfSome}
use mathlib.Core.Option.{some, some-injective, some-ne-none}
use mathlib.Core.List.{IsPrefix}
use mathlib.Core.Logic.{dite}
use native.Mathlib.Decide.{ℕ_discrete}
use lib.ListN.{get_elem?}
use Rattle.atomic_table.proofs.Lists.{at_set}
use Rattle.atomic_table.specs.Table.{State, keeps, Allows, Splits, Joins, Enters}
use Rattle.nm_book.specs.declared.rule.Entry.{Entry}
use Rattle.nm_book.specs.declared.rule.Role.{Role}
use Rattle.nm_book.specs.declared.rule.Role.TheVariants.{Idle, Keeps}
use Rattle.nm_book.specs.declared.rule.View.{View}
use Rattle.nm_book.specs.Log.{of_shard, calls_by, whats, entry, IsLegal, IsAmong, AllOver, Knows, all_of, over_of, Plays, Fits, Kept, view, as_maker, as_keeper, as_pass, as_told, nobody, Arrives, Observes, Adds, meeting, Retired, Gone, AllGone, Apart, AllStand, OneLog, as_closer, past_of}
use Rattle.nm_book.specs.declared.rule.Past.{Past}
use Rattle.nm_book.specs.declared.rule.Shard.{Shard}
use Rattle.nm_book.proofs.Gone.{gone_set, gone_kept, gone_same, gone_end, gone_join, apart_of}
use Rattle.nm_book.proofs.Lists.{prefix_self, prefix_longer, at_end, is_there, set_length, calls_own, calls_other, shard_own, shard_other, whats_longer, length_end}

module _ {E : Type 0} (legal : ℕ → List E → Type 0) where
  -- the seats but one are as they were
  fits_set : (seat : ℕ → ℕ) (log : List (Entry E)) (views : List (View E)) (by : ℕ) (w : View E)
      → ((j : ℕ) (u : View E) → j ≢ by → get_elem? views j ≡ some u → Fits seat log j u) → Fits seat log by w
      → (j : ℕ) (u : View E) → get_elem? (set views by w) j ≡ some u → Fits seat log j u
  fits_set seat log views by w others own j u e =
      ⊎_elim
      (λ (x : (j ≡ by) × (w ≡ u)). subst (λ (y : ℕ × View E). Fits seat log y.0 y.1) (λ i. (sym x.0 i, x.1 i)) own)
      (λ (x : (j ≢ by) × (get_elem? views j ≡ some u)). others j u x.0 x.1)
      (at_set views by j w u e)

  -- the same with one seat more
  fits_end : (seat : ℕ → ℕ) (log : List (Entry E)) (views : List (View E)) (w : View E)
      → ((j : ℕ) (u : View E) → j < length views → get_elem? views j ≡ some u → Fits seat log j u) → Fits seat log (length views) w
      → (j : ℕ) (u : View E) → get_elem? (views ++ w ∷ []) j ≡ some u → Fits seat log j u
  fits_end seat log views w others own j u e =
      ⊎_elim
      (λ (x : (j < length views) × (get_elem? views j ≡ some u)). others j u x.0 x.1)
      (λ (x : (j ≡ length views) × (w ≡ u)). subst (λ (y : ℕ × View E). Fits seat log y.0 y.1) (λ i. (sym x.0 i, x.1 i)) own)
      (at_end views w u j e)

  -- the shard s goes to another seat
  abbrev moved : (ℕ → ℕ) → ℕ → ℕ → ℕ → ℕ
  moved seat s to t = if t == s then to else seat t

  moved_here : (seat : ℕ → ℕ) (s to t : ℕ) → t ≡ s → to ≡ moved seat s to t
  moved_here seat s to t is = rw (eq-eqb t s is) refl

  moved_else : (seat : ℕ → ℕ) (s to t : ℕ) → t ≢ s → seat t ≡ moved seat s to t
  moved_else seat s to t not = rw (ne_eqb t s not) refl

  -- who had not the shard plays on
  plays_on : (seat : ℕ → ℕ) (log : List (Entry E)) (role : Role E) (s to from j : ℕ) → from ≡ seat s → j ≢ from
      → Plays role j seat log → Plays role j (moved seat s to) log
  plays_on seat log role s to from j had apart plays t owns =
      let p = plays t owns in
      (p.0 ∙ moved_else seat s to t (λ (is : t ≡ s). apart (p.0 ∙ (ap seat is ∙ sym had))), p.1)

  fits_on : (seat : ℕ → ℕ) (log : List (Entry E)) (s to from j : ℕ) (u : View E) → from ≡ seat s → j ≢ from
      → Fits seat log j u → Fits (moved seat s to) log j u
  fits_on seat log s to from j u had apart f = record {
    seen = f.seen;
    heard = f.heard;
    mine = f.mine;
    who = f.who;
    met = f.met;
    role = plays_on seat log u.role s to from j had apart f.role;
  }

  pub begins : ((s : ℕ) → legal s []) → Kept legal (as_maker 0 ∷ [])
  begins empty = record {
    log = [];
    seat = λ s. 0;
    is_legal = empty;
    fits = one;
    fresh = λ by le. refl;
    gone = λ j u e. only j u e;
  }
    where
      first : Fits {E = E} (λ s. 0) [] 0 (as_maker 0)
      first = record { seen = prefix_self []; heard = prefix_self []; mine = λ (e : false ≡ true). refl; who = λ (e : false ≡ true). absurd cc; met = tt; role = λ s owns. (refl, refl) }

      one : (by : ℕ) (v : View E) → get_elem? (as_maker 0 ∷ []) by ≡ some v → Fits {E = E} (λ s. 0) [] by v
      one zero v e = subst (Fits (λ s. 0) [] 0) (some-injective _ _ e) first
      one (suc by) v e = absurd (some-ne-none v (sym e))

      only : (j : ℕ) (u : View E) → get_elem? (as_maker 0 ∷ []) j ≡ some u → Retired (as_maker 0 ∷ []) [] u
      only zero u e = subst (λ (z : View E). Retired (as_maker 0 ∷ []) [] z) (some-injective _ _ e) (tt, tt)
      only (suc j) u e = absurd (some-ne-none u (sym e))

  -- a new seat has no calls in the log, and the others stay
  not_there : (views : List (View E)) (j : ℕ) (u : View E) → get_elem? views j ≡ some u → (by : ℕ) → length views ≤ by → j ≢ by
  not_there views j u at by le is = let l = is_there views j u at in absurd (omega arith)

  -- the maker's next keeper
  pub makes : (by n : ℕ)
      → Splits (λ (s : State (Unit {0}) (View E)). Kept legal s.views) by (as_maker n) (as_maker (n + 1)) (as_keeper n [])
  makes by n s k at = record {
    log = k.log;
    seat = moved k.seat n new;
    is_legal = k.is_legal;
    fits = fits_end (moved k.seat n new) k.log (set s.views by (as_maker (n + 1))) (as_keeper n [])
        (λ j u l e. fits_set (moved k.seat n new) k.log s.views by (as_maker (n + 1))
        (λ i w apart f. fits_on k.seat k.log n new by i w had.0 apart (k.fits i w f)) own j u e)
        (subst (λ (z : ℕ). Fits (moved k.seat n new) k.log z (as_keeper n [])) (sym (set_length s.views by (as_maker (n + 1)))) next);
    fresh = λ i le. k.fresh i (omega (arith, set_length s.views by (as_maker (n + 1)), length_end (set s.views by (as_maker (n + 1))) (as_keeper n []), le));
    gone = gone_end (set s.views by (as_maker (n + 1))) k.log (as_keeper n []) (gone_set s.views k.log k.log by (as_maker n) (as_maker (n + 1)) at (λ (e : false ≡ true). absurd cc) ((λ k n. refl), prefix_self k.log) k.gone (tt, tt)) (tt, tt);
  }
    where
      new : ℕ
      new = length s.views

      old : Fits {E = E} k.seat k.log by (as_maker n)
      old = k.fits by (as_maker n) at

      had : (by ≡ k.seat n) × ([] ≡ of_shard n k.log)
      had = old.role n (omega arith)

      own : Fits {E = E} (moved k.seat n new) k.log by (as_maker (n + 1))
      own = record {
        seen = old.seen;
        heard = old.heard;
        mine = λ (e : false ≡ true). absurd cc;
        who = λ (e : false ≡ true). absurd cc;
        met = tt;
        role = λ t le. (let p = old.role t (omega (arith, le)) in (p.0 ∙ moved_else k.seat n new t (λ (is : t ≡ n). absurd (omega (arith, le, is))), p.1));
      }

      next : Fits {E = E} (moved k.seat n new) k.log new (as_keeper n [])
      next = record {
        seen = (k.log, refl);
        heard = (k.log, refl);
        mine = λ (e : false ≡ true). absurd cc;
        who = λ (e : false ≡ true). absurd cc;
        met = tt;
        role = λ t is. (moved_here k.seat n new t (sym is), subst (λ (z : ℕ). [] ≡ of_shard z k.log) is had.1);
      }

  -- a new pass
  pub arrives : (slots : ℕ) → Enters (λ (s : State (Unit {0}) (View E)). Kept legal s.views) slots 0 (λ m w. Arrives legal w)
  arrives slots s k no_slots small = (
    as_pass new k.log [],
    record {
      log = k.log;
      seat = k.seat;
      is_legal = k.is_legal;
      fits = fits_end k.seat k.log s.views (as_pass new k.log []) (λ j u l e. k.fits j u e) next;
      fresh = λ i le. k.fresh i (omega (arith, length_end s.views (as_pass new k.log []), le));
      gone = gone_end s.views k.log (as_pass new k.log []) k.gone (tt, tt);
    },
    (new, k.log, refl, k.is_legal, k.fresh new (omega arith)),
  )
    where
      new : ℕ
      new = length s.views

      next : Fits {E = E} k.seat k.log new (as_pass new k.log [])
      next = record {
        seen = prefix_self k.log;
        heard = (k.log, refl);
        mine = λ e. k.fresh new (omega arith);
        who = λ e. refl;
        met = tt;
        role = λ t none. absurd none;
      }

  -- a pass takes the keeper of a shard along, whose seat is spent
  pub keeps_in : (by : ℕ) (v : View E) (other s : ℕ) (all : List (Entry E)) → v.role ≡ Idle
      → Joins (λ (x : State (Unit {0}) (View E)). Kept legal x.views) by v other (as_keeper s all)
      (view v.acts v.who (Keeps s all) v.seen v.heard v.mine) nobody
  keeps_in by v other s all idle x k at apart there = record {
    log = k.log;
    seat = moved k.seat s by;
    is_legal = k.is_legal;
    fits = fits_set (moved k.seat s by) k.log (set x.views by both) other nobody
        (λ j u not e. fits_set2 j u not e) spent;
    fresh = λ i le. k.fresh i (omega (arith, set_length x.views by both, set_length (set x.views by both) other nobody, le));
    gone = gone_set (set x.views by both) k.log k.log other (as_keeper s all) nobody there (λ (e : false ≡ true). absurd cc) ((λ k n. refl), prefix_self k.log) (gone_set x.views k.log k.log by v both at (λ a. a) ((λ k n. refl), prefix_self k.log) k.gone (tt, tt)) (tt, tt);
  }
    where
      both : View E
      both = view v.acts v.who (Keeps s all) v.seen v.heard v.mine

      old : Fits {E = E} k.seat k.log by v
      old = k.fits by v at

      theirs : Fits {E = E} k.seat k.log other (as_keeper s all)
      theirs = ⊎_elim (λ (t : (other ≡ by) × (both ≡ as_keeper s all)). absurd (apart t.0)) (λ (t : (other ≢ by) × (get_elem? x.views other ≡ some (as_keeper s all))). k.fits other (as_keeper s all) t.1) (at_set x.views by other both (as_keeper s all) there)

      had : (other ≡ k.seat s) × (all ≡ of_shard s k.log)
      had = theirs.role s refl

      own : Fits {E = E} (moved k.seat s by) k.log by both
      own = record {
        seen = old.seen;
        heard = old.heard;
        mine = old.mine;
        who = old.who;
        met = tt;
        role = λ t is. (moved_here k.seat s by t (sym is), subst (λ (z : ℕ). all ≡ of_shard z k.log) is had.1);
      }

      fits_set2 : (j : ℕ) (u : View E) → j ≢ other → get_elem? (set x.views by both) j ≡ some u → Fits {E = E} (moved k.seat s by) k.log j u
      fits_set2 j u not e = ⊎_elim
          (λ (t : (j ≡ by) × (both ≡ u)). subst (λ (y : ℕ × View E). Fits (moved k.seat s by) k.log y.0 y.1) (λ i. (sym t.0 i, t.1 i)) own)
          (λ (t : (j ≢ by) × (get_elem? x.views j ≡ some u)). fits_on k.seat k.log s by other j u had.0 not (k.fits j u t.1))
          (at_set x.views by j both u e)

      spent : Fits {E = E} (moved k.seat s by) k.log other nobody
      spent = record {
        seen = (k.log, refl);
        heard = (k.log, refl);
        mine = λ (e : false ≡ true). absurd cc;
        who = λ (e : false ≡ true). absurd cc;
        met = tt;
        role = λ t none. absurd none;
      }

  -- a pass lets the keeper go again
  pub lets_go : (by : ℕ) (v : View E) (s : ℕ) (all : List (Entry E)) → v.role ≡ Keeps s all
      → Splits (λ (x : State (Unit {0}) (View E)). Kept legal x.views) by v
      (view v.acts v.who Idle v.seen v.heard v.mine) (as_keeper s all)
  lets_go by v s all is x k at = record {
    log = k.log;
    seat = moved k.seat s new;
    is_legal = k.is_legal;
    fits = fits_end (moved k.seat s new) k.log (set x.views by left) (as_keeper s all)
        (λ j u l e. fits_set (moved k.seat s new) k.log x.views by left
        (λ i w apart f. fits_on k.seat k.log s new by i w had.0 apart (k.fits i w f)) own j u e)
        (subst (λ (z : ℕ). Fits (moved k.seat s new) k.log z (as_keeper s all)) (sym (set_length x.views by left)) next);
    fresh = λ i le. k.fresh i (omega (arith, set_length x.views by left, length_end (set x.views by left) (as_keeper s all), le));
    gone = gone_end (set x.views by left) k.log (as_keeper s all) (gone_set x.views k.log k.log by v left at (λ a. a) ((λ k n. refl), prefix_self k.log) k.gone (tt, tt)) (tt, tt);
  }
    where
      new : ℕ
      new = length x.views

      left : View E
      left = view v.acts v.who Idle v.seen v.heard v.mine

      old : Fits {E = E} k.seat k.log by v
      old = k.fits by v at

      had : (by ≡ k.seat s) × (all ≡ of_shard s k.log)
      had = subst (λ (r : Role E). Plays r by k.seat k.log) is old.role s refl

      own : Fits {E = E} (moved k.seat s new) k.log by left
      own = record { seen = old.seen; heard = old.heard; mine = old.mine; who = old.who; met = tt; role = λ t none. absurd none }

      next : Fits {E = E} (moved k.seat s new) k.log new (as_keeper s all)
      next = record {
        seen = (k.log, refl);
        heard = (k.log, refl);
        mine = λ (e : false ≡ true). absurd cc;
        who = λ (e : false ≡ true). absurd cc;
        met = tt;
        role = λ t at. (moved_here k.seat s new t (sym at), subst (λ (z : ℕ). all ≡ of_shard z k.log) at had.1);
      }

  -- an entry of a shard is added by who keeps it
  pub adds : (slots by : ℕ) (v : View E) (s : ℕ) (all : List (Entry E)) (what : E) → v.role ≡ Keeps s all → v.acts ≡ true
      → legal s (whats all ++ what ∷ [])
      → Allows (λ (x : State (Unit {0}) (View E)). Kept legal x.views) slots by (v, []) 0 (λ n. n) (λ n m. Adds legal s what v m.0 × (m.1 ≡ []))
  adds slots by v s all what role acts fine x k no_slots at small = (
    w,
    keeps,
    tt,
    record {
      log = log;
      seat = k.seat;
      is_legal = legal_on;
      fits = fits_set k.seat log x.views by w others own;
      fresh = λ i le. (let l = is_there x.views by v at in calls_other k.log e i (λ (same : v.who ≡ i). absurd (omega (arith, same, who, l, le, set_length x.views by w))) ∙ k.fresh i (omega (arith, set_length x.views by w, le)));
      gone = gone_set x.views k.log log by v w at (λ a. a) ((λ j idle. calls_other k.log e j (λ (same : v.who ≡ j). idle v (subst (λ (n : ℕ). get_elem? x.views n ≡ some v) (sym who ∙ same) at) acts)), prefix_longer k.log k.log e (prefix_self k.log)) k.gone (tt, tt);
    },
    (
      (
        old.seen.0,
        ap (λ (l : List (Entry E)). view v.acts v.who (Keeps s (all_of v.role ++ e ∷ [])) (l ++ e ∷ []) [] (v.mine ++ e ∷ [])) (sym old.seen.1),
        all_is ∙ ap (of_shard s) (sym old.seen.1),
        subst (IsLegal legal) (ap (λ (l : List (Entry E)). l ++ e ∷ []) (sym old.seen.1)) legal_on,
        ap (calls_by v.who) old.seen.1 ∙ (ap (λ (z : ℕ). calls_by z k.log) who ∙ old.mine acts),
      ),
      refl,
    ),
  )
    where
      e : Entry E
      e = entry v.who s what

      log : List (Entry E)
      log = k.log ++ e ∷ []

      old : Fits {E = E} k.seat k.log by v
      old = k.fits by v at

      who : v.who ≡ by
      who = old.who acts

      had : (by ≡ k.seat s) × (all ≡ of_shard s k.log)
      had = subst (λ (r : Role E). Plays r by k.seat k.log) role old.role s refl

      all_is : all_of v.role ≡ of_shard s k.log
      all_is = ap all_of role ∙ had.1

      w : View E
      w = view v.acts v.who (Keeps s (all_of v.role ++ e ∷ [])) log [] (v.mine ++ e ∷ [])

      own : Fits {E = E} k.seat log by w
      own = record {
        seen = prefix_self log;
        heard = (log, refl);
        mine = λ a. calls_own k.log e by who ∙ ap (λ (l : List (Entry E)). l ++ e ∷ []) (old.mine a);
        who = old.who;
        met = tt;
        role = λ t is. (had.0 ∙ ap k.seat is, ap (λ (l : List (Entry E)). l ++ e ∷ []) all_is ∙ (sym (shard_own k.log e s refl) ∙ ap (λ (z : ℕ). of_shard z log) is));
      }

      others : (j : ℕ) (u : View E) → j ≢ by → get_elem? x.views j ≡ some u → Fits {E = E} k.seat log j u
      others j u apart f = (let o = k.fits j u f in record {
        seen = prefix_longer u.seen k.log e o.seen;
        heard = prefix_longer u.heard k.log e o.heard;
        mine = λ a. calls_other k.log e j (λ (same : v.who ≡ j). apart (sym same ∙ who)) ∙ o.mine a;
        who = o.who;
        met = o.met;
        role = λ t owns. (let p = o.role t owns in (p.0, subst (Knows u.role t) (sym (shard_other k.log e t (λ (same : s ≡ t). apart (p.0 ∙ (ap k.seat (sym same) ∙ sym had.0))))) p.1));
      })

      legal_on : IsLegal legal log
      legal_on t = dite (ℕ_discrete s t)
          (λ (same : s ≡ t). subst (legal t) (sym (ap whats (shard_own k.log e t same) ∙ whats_longer (of_shard t k.log) e)) (subst (λ (z : ℕ). legal z (whats (of_shard z k.log) ++ what ∷ [])) same (subst (λ (l : List (Entry E)). legal s (whats l ++ what ∷ [])) had.1 fine)))
          (λ (not : s ≢ t). subst (legal t) (sym (ap whats (shard_other k.log e t not))) (k.is_legal t))

  -- the log as it is is seen
  pub observes : (slots by : ℕ) (v : View E)
      → Allows (λ (x : State (Unit {0}) (View E)). Kept legal x.views) slots by (v, []) 0 (λ n. n) (λ n m. Observes legal v m.0 × (m.1 ≡ []))
  observes slots by v x k no_slots at small = (
    w,
    keeps,
    tt,
    record {
      log = k.log;
      seat = k.seat;
      is_legal = k.is_legal;
      fits = fits_set k.seat k.log x.views by w (λ j u apart f. k.fits j u f) own;
      fresh = λ i le. k.fresh i (omega (arith, set_length x.views by w, le));
      gone = gone_set x.views k.log k.log by v w at (λ a. a) ((λ k n. refl), prefix_self k.log) k.gone (tt, tt);
    },
    (
      (
        old.seen.0,
        ap (λ (l : List (Entry E)). view v.acts v.who v.role l [] v.mine) (sym old.seen.1),
        subst (IsPrefix v.heard) (sym old.seen.1) old.heard,
        subst (IsLegal legal) (sym old.seen.1) k.is_legal,
        λ acts. (ap (calls_by v.who) old.seen.1 ∙ (ap (λ (z : ℕ). calls_by z k.log) (old.who acts) ∙ old.mine acts), subst (λ (z : ℕ). IfSome v.met (λ k. k ≢ z)) (sym (old.who acts)) old.met),
        λ s owns. (let p = old.role s owns in subst (Knows v.role s) (ap (of_shard s) (sym old.seen.1)) p.1),
      ),
      refl,
    ),
  )
    where
      old : Fits {E = E} k.seat k.log by v
      old = k.fits by v at

      w : View E
      w = view v.acts v.who v.role k.log [] v.mine

      own : Fits {E = E} k.seat k.log by w
      own = record { seen = prefix_self k.log; heard = (k.log, refl); mine = old.mine; who = old.who; met = tt; role = old.role }

  -- what was seen is told to another
  pub tells : (by : ℕ) (v : View E)
      → Splits (λ (x : State (Unit {0}) (View E)). Kept legal x.views) by v v (as_told v.seen)
  tells by v x k at = record {
    log = k.log;
    seat = k.seat;
    is_legal = k.is_legal;
    fits = fits_end k.seat k.log (set x.views by v) (as_told v.seen)
        (λ j u l e. fits_set k.seat k.log x.views by v (λ i w apart f. k.fits i w f) old j u e)
        (subst (λ (z : ℕ). Fits k.seat k.log z (as_told v.seen)) (sym (set_length x.views by v)) next);
    fresh = λ i le. k.fresh i (omega (arith, set_length x.views by v, length_end (set x.views by v) (as_told v.seen), le));
    gone = gone_end (set x.views by v) k.log (as_told v.seen) (gone_set x.views k.log k.log by v v at (λ a. a) ((λ k n. refl), prefix_self k.log) k.gone (gone_same x.views k.log by v at k.gone)) (tt, tt);
  }
    where
      old : Fits {E = E} k.seat k.log by v
      old = k.fits by v at

      next : Fits {E = E} k.seat k.log (length x.views) (as_told v.seen)
      next = record {
        seen = old.seen;
        heard = (k.log, refl);
        mine = λ (e : false ≡ true). absurd cc;
        who = λ (e : false ≡ true). absurd cc;
        met = tt;
        role = λ t none. absurd none;
      }

  -- and heard by it
  pub hears : (by : ℕ) (v : View E) (other : ℕ) (told : List (Entry E))
      → Joins (λ (x : State (Unit {0}) (View E)). Kept legal x.views) by v other (as_told told)
      (view v.acts v.who v.role v.seen told v.mine) nobody
  hears by v other told x k at apart there = record {
    log = k.log;
    seat = k.seat;
    is_legal = k.is_legal;
    fits = fits_set k.seat k.log (set x.views by both) other nobody
        (λ j u not e. fits_set k.seat k.log x.views by both (λ i w no f. k.fits i w f) own j u e) spent;
    fresh = λ i le. k.fresh i (omega (arith, set_length x.views by both, set_length (set x.views by both) other nobody, le));
    gone = gone_set (set x.views by both) k.log k.log other (as_told told) nobody there (λ (e : false ≡ true). absurd cc) ((λ k n. refl), prefix_self k.log) (gone_set x.views k.log k.log by v both at (λ a. a) ((λ k n. refl), prefix_self k.log) k.gone (tt, tt)) (tt, tt);
  }
    where
      both : View E
      both = view v.acts v.who v.role v.seen told v.mine

      old : Fits {E = E} k.seat k.log by v
      old = k.fits by v at

      theirs : Fits {E = E} k.seat k.log other (as_told told)
      theirs = ⊎_elim (λ (t : (other ≡ by) × (both ≡ as_told told)). absurd (apart t.0)) (λ (t : (other ≢ by) × (get_elem? x.views other ≡ some (as_told told))). k.fits other (as_told told) t.1) (at_set x.views by other both (as_told told) there)

      own : Fits {E = E} k.seat k.log by both
      own = record { seen = old.seen; heard = theirs.seen; mine = old.mine; who = old.who; met = tt; role = old.role }

      spent : Fits {E = E} k.seat k.log other nobody
      spent = record { seen = (k.log, refl); heard = (k.log, refl); mine = λ (e : false ≡ true). absurd cc; who = λ (e : false ≡ true). absurd cc; met = tt; role = λ t none. absurd none }

  -- the same, where the seat is known by its parts
  pub makes_as : (by n : ℕ) (v : View E) → v ≡ as_maker n
      → Splits (λ (s : State (Unit {0}) (View E)). Kept legal s.views) by v (as_maker (n + 1)) (as_keeper n [])
  makes_as by n v is = subst (λ (u : View E). Splits (λ (s : State (Unit {0}) (View E)). Kept legal s.views) by u (as_maker (n + 1)) (as_keeper n [])) (sym is) (makes by n)

  pub keeps_in_as : (by : ℕ) (v : View E) (other s : ℕ) (all : List (Entry E)) (w : View E) → v.role ≡ Idle → w ≡ as_keeper s all
      → Joins (λ (x : State (Unit {0}) (View E)). Kept legal x.views) by v other w
      (view v.acts v.who w.role v.seen v.heard v.mine) nobody
  keeps_in_as by v other s all w idle is = subst (λ (u : View E). Joins (λ (x : State (Unit {0}) (View E)). Kept legal x.views) by v other u (view v.acts v.who u.role v.seen v.heard v.mine) nobody) (sym is) (keeps_in by v other s all idle)

  pub lets_go_as : (by : ℕ) (v : View E) (s : ℕ) (all : List (Entry E)) → v.role ≡ Keeps s all
      → Splits (λ (x : State (Unit {0}) (View E)). Kept legal x.views) by v
      (view v.acts v.who Idle v.seen v.heard v.mine) (view false 0 v.role [] [] [])
  lets_go_as by v s all is = subst (λ (r : Role E). Splits (λ (x : State (Unit {0}) (View E)). Kept legal x.views) by v (view v.acts v.who Idle v.seen v.heard v.mine) (view false 0 r [] [] [])) (sym is) (lets_go by v s all is)

  pub hears_as : (by : ℕ) (v : View E) (other : ℕ) (told : List (Entry E)) (w : View E) → w ≡ as_told told
      → Joins (λ (x : State (Unit {0}) (View E)). Kept legal x.views) by v other w
      (view v.acts v.who v.role v.seen w.seen v.mine) nobody
  hears_as by v other told w is = subst (λ (u : View E). Joins (λ (x : State (Unit {0}) (View E)). Kept legal x.views) by v other u (view v.acts v.who v.role v.seen u.seen v.mine) nobody) (sym is) (hears by v other told)

  -- a pass meets another, which is spent
  pub meets : (by : ℕ) (v : View E) (other : ℕ) (w : View E) → w.acts ≡ true → w.role ≡ Idle
      → Joins (λ (x : State (Unit {0}) (View E)). Kept legal x.views) by v other w (meeting v w) nobody
  meets by v other w acts idle x k at apart there = record {
    log = k.log;
    seat = k.seat;
    is_legal = k.is_legal;
    fits = fits_set k.seat k.log (set x.views by both) other nobody
        (λ j u not e. fits_set k.seat k.log x.views by both (λ i w no f. k.fits i w f) own j u e) spent;
    fresh = λ i le. k.fresh i (omega (arith, set_length x.views by both, set_length (set x.views by both) other nobody, le));
    gone = gone_set (set x.views by both) k.log k.log other w nobody there (λ (e : false ≡ true). absurd cc) ((λ k n. refl), prefix_self k.log) (gone_set x.views k.log k.log by v both at (λ a. a) ((λ k n. refl), prefix_self k.log) k.gone (tt, tt)) (tt, tt);
  }
    where
      both : View E
      both = meeting v w

      old : Fits {E = E} k.seat k.log by v
      old = k.fits by v at

      theirs : Fits {E = E} k.seat k.log other w
      theirs = ⊎_elim (λ (t : (other ≡ by) × (both ≡ w)). absurd (apart t.0)) (λ (t : (other ≢ by) × (get_elem? x.views other ≡ some w)). k.fits other w t.1) (at_set x.views by other both w there)

      own : Fits {E = E} k.seat k.log by both
      own = record { seen = old.seen; heard = theirs.seen; mine = old.mine; who = old.who; met = (λ (same : w.who ≡ by). apart (sym (theirs.who acts) ∙ same)); role = old.role }

      spent : Fits {E = E} k.seat k.log other nobody
      spent = record { seen = (k.log, refl); heard = (k.log, refl); mine = λ (e : false ≡ true). absurd cc; who = λ (e : false ≡ true). absurd cc; met = tt; role = λ t none. absurd none }

  -- who collects the passes whose calls are over comes
  pub closer_arrives : (slots : ℕ) → Enters (λ (s : State (Unit {0}) (View E)). Kept legal s.views) slots 0 (λ m w. w ≡ as_closer [] [])
  closer_arrives slots s k no_slots small = (
    as_closer [] [],
    record {
      log = k.log;
      seat = k.seat;
      is_legal = k.is_legal;
      fits = fits_end k.seat k.log s.views (as_closer [] []) (λ j u l e. k.fits j u e) next;
      fresh = λ i le. k.fresh i (omega (arith, length_end s.views (as_closer [] []), le));
      gone = gone_end s.views k.log (as_closer [] []) k.gone (tt, tt);
    },
    refl,
  )
    where
      next : Fits {E = E} k.seat k.log (length s.views) (as_closer [] [])
      next = record {
        seen = (k.log, refl);
        heard = (k.log, refl);
        mine = λ (e : false ≡ true). absurd cc;
        who = λ (e : false ≡ true). absurd cc;
        met = tt;
        role = λ t none. absurd none.1;
      }

  -- and takes in one of them
  pub closes : (by : ℕ) (gone : List (Past E)) (shards : List (Shard E)) (other : ℕ) (w : View E) → w.acts ≡ true
      → Joins (λ (x : State (Unit {0}) (View E)). Kept legal x.views) by (as_closer gone shards) other w (as_closer (past_of w ∷ gone) shards) nobody
  closes by gone shards other w acts x k at apart there = record {
    log = k.log;
    seat = k.seat;
    is_legal = k.is_legal;
    fits = fits_set k.seat k.log (set x.views by both) other nobody
        (λ j u not e. fits_set k.seat k.log x.views by both (λ i w no f. k.fits i w f) own j u e) spent;
    fresh = λ i le. k.fresh i (omega (arith, set_length x.views by both, set_length (set x.views by both) other nobody, le));
    gone = λ j u e. ⊎_elim
        (λ (t : (j ≡ other) × (nobody ≡ u)). subst (λ (z : View E). Retired after k.log z) t.1 (tt, tt))
        (λ (t : (j ≢ other) × (get_elem? (set x.views by both) j ≡ some u)). ⊎_elim
        (λ (r : (j ≡ by) × (both ≡ u)). subst (λ (z : View E). Retired after k.log z) r.1 collected)
        (λ (r : (j ≢ by) × (get_elem? x.views j ≡ some u)). (let g = k.gone j u r.1 in (g.0, on u.gone g.1)))
        (at_set x.views by j both u t.1))
        (at_set (set x.views by both) other j nobody u e);
  }
    where
      both : View E
      both = as_closer (past_of w ∷ gone) shards

      after : List (View E)
      after = set (set x.views by both) other nobody

      on : (ps : List (Past E)) → AllGone x.views k.log ps → AllGone after k.log ps
      on ps all = gone_join x.views k.log by (as_closer gone shards) both other w nobody at (λ a. a) there refl k.gone ps all

      was : get_elem? x.views other ≡ some w
      was = ⊎_elim (λ (t : (other ≡ by) × (both ≡ w)). absurd (apart t.0)) (λ (t : (other ≢ by) × (get_elem? x.views other ≡ some w)). t.1) (at_set x.views by other both w there)

      old : Fits {E = E} k.seat k.log by (as_closer gone shards)
      old = k.fits by (as_closer gone shards) at

      theirs : Fits {E = E} k.seat k.log other w
      theirs = k.fits other w was

      before : Retired x.views k.log (as_closer gone shards)
      before = k.gone by (as_closer gone shards) at

      last : Gone {E = E} after k.log (past_of w)
      last = record {
        there = (let l = is_there x.views other w was in let a = theirs.who acts in omega (arith, l, a, set_length x.views by both, set_length (set x.views by both) other nobody));
        idle = λ u e a. ⊎_elim
            (λ (t : (w.who ≡ other) × (nobody ≡ u)). absurd (cc (ap (λ (z : View E). z.acts) t.1, a)))
            (λ (t : (w.who ≢ other) × (get_elem? (set x.views by both) w.who ≡ some u)). t.0 (theirs.who acts))
            (at_set (set x.views by both) other w.who nobody u e);
        all = ap (λ (z : ℕ). calls_by z k.log) (theirs.who acts) ∙ theirs.mine acts;
        seen = theirs.seen;
      }

      collected : Retired after k.log both
      collected = (
        (subst (λ (z : ℕ). Apart z gone) (sym (theirs.who acts)) (apart_of x.views k.log other w was acts gone before.1), before.0),
        (last, on gone before.1),
      )

      own : Fits {E = E} k.seat k.log by both
      own = record { seen = old.seen; heard = old.heard; mine = old.mine; who = old.who; met = tt; role = old.role }

      spent : Fits {E = E} k.seat k.log other nobody
      spent = record { seen = (k.log, refl); heard = (k.log, refl); mine = λ (e : false ≡ true). absurd cc; who = λ (e : false ≡ true). absurd cc; met = tt; role = λ t none. absurd none }

  -- and the keeper of a shard that is over, whose seat is spent
  pub closes_shard : (by : ℕ) (gone : List (Past E)) (shards : List (Shard E)) (other s : ℕ) (all : List (Entry E))
      → Joins (λ (x : State (Unit {0}) (View E)). Kept legal x.views) by (as_closer gone shards) other (as_keeper s all) (as_closer gone (over_of (as_keeper s all) ∷ shards)) nobody
  closes_shard by gone shards other s all x k at apart there = record {
    log = k.log;
    seat = moved k.seat s by;
    is_legal = k.is_legal;
    fits = fits_set (moved k.seat s by) k.log (set x.views by both) other nobody
        (λ j u not e. fits_set2 j u not e) spent;
    fresh = λ i le. k.fresh i (omega (arith, set_length x.views by both, set_length (set x.views by both) other nobody, le));
    gone = gone_set (set x.views by both) k.log k.log other (as_keeper s all) nobody there (λ (e : false ≡ true). absurd cc) ((λ k n. refl), prefix_self k.log) (gone_set x.views k.log k.log by (as_closer gone shards) both at (λ a. a) ((λ k n. refl), prefix_self k.log) k.gone (gone_kept x.views k.log by (as_closer gone shards) both at (λ a. a) refl k.gone)) (tt, tt);
  }
    where
      both : View E
      both = as_closer gone (over_of (as_keeper s all) ∷ shards)

      old : Fits {E = E} k.seat k.log by (as_closer gone shards)
      old = k.fits by (as_closer gone shards) at

      theirs : Fits {E = E} k.seat k.log other (as_keeper s all)
      theirs = ⊎_elim (λ (t : (other ≡ by) × (both ≡ as_keeper s all)). absurd (apart t.0)) (λ (t : (other ≢ by) × (get_elem? x.views other ≡ some (as_keeper s all))). k.fits other (as_keeper s all) t.1) (at_set x.views by other both (as_keeper s all) there)

      had : (other ≡ k.seat s) × (all ≡ of_shard s k.log)
      had = theirs.role s refl

      -- the shard is the last, or one from before
      Last : ℕ → List (Entry E) → Type 0
      Last t those = (s ≡ t) × (all ≡ those)

      at_seat : (t : ℕ) (those : List (Entry E)) → Last t those ⊎ IsAmong shards t those → by ≡ moved k.seat s by t
      at_seat t those among = dite (ℕ_discrete t s)
          (λ (same : t ≡ s). moved_here k.seat s by t same)
          (λ (not : t ≢ s). ⊎_elim
          (λ (last : Last t those). absurd (not (sym last.0)))
          (λ (one : IsAmong shards t those). (old.role t (those, one)).0 ∙ moved_else k.seat s by t not)
          among)

      own : Fits {E = E} (moved k.seat s by) k.log by both
      own = record {
        seen = old.seen;
        heard = old.heard;
        mine = old.mine;
        who = old.who;
        met = tt;
        role = λ t owns. (
          at_seat t owns.0 owns.1,
          λ those among. ⊎_elim
              (λ (last : Last t those). sym last.1 ∙ (had.1 ∙ ap (λ (z : ℕ). of_shard z k.log) last.0))
              (λ (one : IsAmong shards t those). (old.role t (those, one)).1 those one)
              among,
        );
      }

      fits_set2 : (j : ℕ) (u : View E) → j ≢ other → get_elem? (set x.views by both) j ≡ some u → Fits {E = E} (moved k.seat s by) k.log j u
      fits_set2 j u not e = ⊎_elim
          (λ (t : (j ≡ by) × (both ≡ u)). subst (λ (y : ℕ × View E). Fits (moved k.seat s by) k.log y.0 y.1) (λ i. (sym t.0 i, t.1 i)) own)
          (λ (t : (j ≢ by) × (get_elem? x.views j ≡ some u)). fits_on k.seat k.log s by other j u had.0 not (k.fits j u t.1))
          (at_set x.views by j both u e)

      spent : Fits {E = E} (moved k.seat s by) k.log other nobody
      spent = record { seen = (k.log, refl); heard = (k.log, refl); mine = λ (e : false ≡ true). absurd cc; who = λ (e : false ≡ true). absurd cc; met = tt; role = λ t none. absurd none }

  stand : (views : List (View E)) (log : List (Entry E)) (ps : List (Past E)) → AllGone views log ps → AllStand log ps
  stand views log [] all = tt
  stand views log (p ∷ ps) all = (all.0.all, all.0.seen, stand views log ps all.1)

  over : (log : List (Entry E)) (shards : List (Shard E)) → ((s : ℕ) (all : List (Entry E)) → IsAmong shards s all → all ≡ of_shard s log) → AllOver log shards
  over log [] each = tt
  over log (x ∷ shards) each = (each x.shard x.all (inl (refl, refl)), over log shards (λ s all one. each s all (inr one)))

  -- what it knows at the end
  pub ends : (slots by : ℕ) (gone : List (Past E)) (shards : List (Shard E))
      → Allows (λ (x : State (Unit {0}) (View E)). Kept legal x.views) slots by (as_closer gone shards, []) 0 (λ n. n)
      (λ n m. (m ≡ (as_closer gone shards, [])) × OneLog legal gone shards)
  ends slots by gone shards x k no_slots at small = (
    as_closer gone shards,
    keeps,
    tt,
    record {
      log = k.log;
      seat = k.seat;
      is_legal = k.is_legal;
      fits = fits_set k.seat k.log x.views by (as_closer gone shards) (λ j u apart f. k.fits j u f) (k.fits by (as_closer gone shards) at);
      fresh = λ i le. k.fresh i (omega (arith, set_length x.views by (as_closer gone shards), le));
      gone = gone_set x.views k.log k.log by (as_closer gone shards) (as_closer gone shards) at (λ a. a) ((λ j n. refl), prefix_self k.log) k.gone (gone_same x.views k.log by (as_closer gone shards) at k.gone);
    },
    (refl, record { log = k.log; is_legal = k.is_legal; distinct = (k.gone by (as_closer gone shards) at).0; stand = stand x.views k.log gone (k.gone by (as_closer gone shards) at).1; over = over k.log shards (λ s all one. ((k.fits by (as_closer gone shards) at).role s (all, one)).1 all one) }),
  )
