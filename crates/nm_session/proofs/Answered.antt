-- An outstanding request that is taken out of the list is answered.
use Rattle.std.proofs.Common.{◌≡◌, ℕ, suc, ◌+◌, ◌<◌, List, ◌∷◌, ◌++◌, length, take, drop, sym, ap, ◌∙◌, get_or, add-one, drop-cons}
use Rattle.std.proofs.lemmas.List.{take-append-drop}
use Rattle.nm_session.specs.declared.outstanding.Outstanding.{Outstanding}
use Rattle.nm_session.specs.declared.outcome.Outcome.{Outcome}
use Rattle.nm_session.specs.Session.{Session}
use Rattle.nm_session.specs.Asking.{Answers}
use Rattle.nm_session.specs.Outcome.{Fits, says, reply_frame}
use Rattle.nm_session.proofs.Sessions.{same_session}

pub answers : (old new : Session) (index : ℕ) (outcome : Outcome) (before after : List Outstanding)
    (held : Outstanding) → old.outstanding ≡ before ++ held ∷ after → held.index ≡ index
    → Fits held.task outcome → new.limit ≡ old.limit → new.stage ≡ old.stage
    → new.haggling ≡ old.haggling → new.rest ≡ old.rest → new.count ≡ old.count
    → new.outstanding ≡ before ++ after
    → new.out ≡ old.out ++ reply_frame held.cookie (says outcome)
    → Answers old index outcome new
answers old new index outcome before after held found index_is fits
    limit stage haggling rest count outstanding out = record {
      before = before;
      held = held;
      after = after;
      found = found;
      index_is = index_is;
      fits = fits;
      new_is = same_session new (record old {
        outstanding = before ++ after;
        out = old.out ++ reply_frame held.cookie (says outcome);
      }) limit stage haggling rest count outstanding out;
    }

-- a list is what stands before a place, what stands there, and what follows
pub split_at : (xs : List Outstanding) (at : ℕ) (held : Outstanding) → at < length xs
    → get_or xs at held ≡ held → xs ≡ take at xs ++ held ∷ drop (at + 1) xs
split_at xs at held below is =
    sym (take-append-drop at xs)
    ∙ ap (λ (rest : List Outstanding). take at xs ++ rest) (drop-cons xs at held below
    ∙ ap (λ (h : Outstanding). h ∷ drop (suc at) xs) is ∙ ap (λ n. held ∷ drop n xs) (sym (add-one at)))
