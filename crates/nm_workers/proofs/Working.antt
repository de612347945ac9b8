-- A worker's target is called for one job after the other.
use Rattle.std.proofs.Common.{◌≡◌, ℕ, Bool, true, false, List, [], ◌∷◌, ◌++◌, refl, sym, ap, ◌∙◌, subst, append_assoc, append-nil}
use Rattle.nm_requests.specs.declared.task.Task.{Task}
use Rattle.nm_session.specs.declared.target.Target as target
use Rattle.nm_session.specs.CalledValue.{CalledValue}
use Rattle.nm_workers.specs.Working.{HasDone, HearsAndCalls, WorksFor}

module _ {T H G : Type 0} (target : target.Ghosts T H G) where
  -- one more job
  pub done_on : (a b c : T) (xs : List CalledValue) (called : CalledValue) (payload : List ℕ)
      → HasDone target a xs b → HearsAndCalls target called.task payload called.outcome b c
      → HasDone target a (xs ++ called ∷ []) c
  done_on a b c [] called payload done calls = (
    c,
    payload,
    subst (λ (s : T). HearsAndCalls target called.task payload called.outcome s c) done calls,
    refl,
  )
  done_on a b c (x ∷ xs) called payload done calls =
      (done.0, done.1, done.2, done_on done.0 b c xs called payload done.3 calls)

  -- no job yet
  pub works_nowhere : (a : T) (told : List CalledValue) → WorksFor target a a true told told
  works_nowhere a told = record {
    told = [];
    untold = [];
    after_is = sym (append-nil told);
    done = refl;
    all_told = λ same. refl;
  }

  module _ (a b c d : T) (heard : Bool) (before now mid after : List CalledValue) (called : CalledValue)
      (task : Task) (payload : List ℕ) (works : WorksFor target a b heard before now) (is_task : called.task ≡ task)
      (calls : HearsAndCalls target task payload called.outcome b c) (same : mid ≡ now) where
    done_more : HasDone target a ((works.told ++ works.untold) ++ called ∷ []) c
    done_more = done_on a b c (works.told ++ works.untold) called payload works.done
        (subst (λ (t : Task). HearsAndCalls target t payload called.outcome b c) (sym is_task) calls)

    -- a job whose result was not heard
    pub works_untold : (end : List CalledValue) → end ≡ mid → WorksFor target a c false before end
    works_untold end is = record {
      told = works.told;
      untold = works.untold ++ called ∷ [];
      after_is = is ∙ same ∙ works.after_is;
      done = subst (λ (xs : List CalledValue). HasDone target a xs c)
          (append_assoc works.told works.untold (called ∷ [])) done_more;
      all_told = λ no. absurd (cc);
    }

    -- or was, as all before
    works_told : heard ≡ true → after ≡ mid ++ called ∷ [] → WorksFor target a c true before after
    works_told was is = record {
      told = works.told ++ called ∷ [];
      untold = [];
      after_is = is ∙ ap (λ (xs : List CalledValue). xs ++ called ∷ []) (same ∙ works.after_is)
          ∙ append_assoc before works.told (called ∷ []);
      done = subst (λ (xs : List CalledValue). HasDone target a xs c)
          (ap (λ (xs : List CalledValue). (works.told ++ xs) ++ called ∷ []) (works.all_told was)
          ∙ ap (λ (xs : List CalledValue). xs ++ called ∷ []) (append-nil works.told)
          ∙ sym (append-nil (works.told ++ called ∷ []))) done_more;
      all_told = λ yes. refl;
    }

    -- by what was found of the reporting
    pub works_on : (result : Bool) → d ≡ c → heard ≡ true → (result ≡ true → after ≡ mid ++ called ∷ [])
        → (result ≡ false → after ≡ mid) → WorksFor target a d result before after
    works_on true stays was told untold =
        subst (λ (t : T). WorksFor target a t true before after) (sym stays) (works_told was (told refl))
    works_on false stays was told untold =
        subst (λ (t : T). WorksFor target a t false before after) (sym stays) (works_untold after (untold refl))

    -- or where none is reported any more
    pub works_past : heard ≡ false → WorksFor target a c heard before mid
    works_past was = subst (λ (h : Bool). WorksFor target a c h before mid) (sym was) (works_untold mid refl)
