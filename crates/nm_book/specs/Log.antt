-- The log of all shards, and what each seat knows of it.
use Rattle.std.specs.Prelude.{ℕ, ◌<◌, ◌≡◌, ◌≢◌, ◌≤◌, ◌⊎◌, ◌==◌, if◌then◌else◌, Bool, true, false}
use Rattle.std.specs.Prelude.{List, [], ◌∷◌, ◌++◌, length, map, Option, None, Some, IfSome}
use mathlib.Core.Option.{some}
use mathlib.Core.List.{IsPrefix}
use lib.ListN.{get_elem?}
use Rattle.atomic_table.specs.Seated.{TableId}
use Rattle.nm_book.specs.declared.rule.Entry.{Entry}
use Rattle.nm_book.specs.declared.rule.Role.{Role}
use Rattle.nm_book.specs.declared.rule.Role.TheVariants.{Ends, Idle, Keeps, Makes}
use Rattle.nm_book.specs.declared.rule.Past.{Past}
use Rattle.nm_book.specs.declared.rule.Shard.{Shard}
use Rattle.nm_book.specs.declared.rule.View.{View}

-- the name of no book
abbrev pub no_table : TableId
no_table = record {
  words = 0;
  slots = 0;
  views_name = 0;
  atom = 0;
  block = 0;
  offset = 0;
  slot_names = [];
}

-- what contracts see of a pass: its number, what it has seen of the log, and its own entries there
pub record PassView (E : Type 0) : Type 0 where
  pub who : ℕ
  pub seen : List (Entry E)
  pub mine : List (Entry E)

-- what they see of a keeper: its shard, and the entries of the shard
pub record KeeperView (E : Type 0) : Type 0 where
  pub shard : ℕ
  pub all : List (Entry E)

-- and of who collects passes and shards that are over: these
pub record ClosedView (E : Type 0) : Type 0 where
  pub passes : List (Past E)
  pub shards : List (Shard E)

module _ {E : Type 0} where
  -- the entries of one shard
  abbrev pub of_shard : ℕ → List (Entry E) → List (Entry E)
  of_shard s [] = []
  of_shard s (e ∷ log) = if e.shard == s then e ∷ of_shard s log else of_shard s log

  -- the entries of one pass
  abbrev pub calls_by : ℕ → List (Entry E) → List (Entry E)
  calls_by by [] = []
  calls_by by (e ∷ log) = if e.by == by then e ∷ calls_by by log else calls_by by log

  -- what was done, without by whom
  abbrev pub whats : List (Entry E) → List E
  whats log = map (λ e. e.what) log

  abbrev pub entry : ℕ → ℕ → E → Entry E
  entry by shard what = record { by = by; shard = shard; what = what }

  -- each shard's entries are legal
  abbrev pub IsLegal : (ℕ → List E → Type 0) → List (Entry E) → Type 0
  IsLegal legal log = (s : ℕ) → legal s (whats (of_shard s log))

  -- the shard is one of these, with these entries
  abbrev pub IsAmong : List (Shard E) → ℕ → List (Entry E) → Type 0
  IsAmong [] s all = ⊥
  IsAmong (x ∷ shards) s all = ((x.shard ≡ s) × (x.all ≡ all)) ⊎ IsAmong shards s all

  -- a shard that a role has to itself
  abbrev pub Owns : Role E → ℕ → Type 0
  Owns Idle s = ⊥
  Owns (Keeps t all) s = t ≡ s
  Owns (Makes n) s = n ≤ s
  Owns (Ends shards) s = (all : List (Entry E)) × IsAmong shards s all

  -- what the role knows of such a shard is that these are its entries
  abbrev pub Knows : Role E → ℕ → List (Entry E) → Type 0
  Knows Idle s there = Unit {0}
  Knows (Keeps t all) s there = all ≡ there
  Knows (Makes n) s there = [] ≡ there
  Knows (Ends shards) s there = (all : List (Entry E)) → IsAmong shards s all → all ≡ there

  -- the seat alone has its shards, and knows all of their entries
  abbrev pub Plays : Role E → ℕ → (ℕ → ℕ) → List (Entry E) → Type 0
  Plays role by seat log = (s : ℕ) → Owns role s → (by ≡ seat s) × Knows role s (of_shard s log)

  -- the shard of a keeper, and the first that a maker has
  abbrev pub shard_of : Role E → ℕ
  shard_of Idle = 0
  shard_of (Keeps t all) = t
  shard_of (Makes n) = n
  shard_of (Ends shards) = 0

  -- the entries of a keeper's shard
  abbrev pub all_of : Role E → List (Entry E)
  all_of Idle = []
  all_of (Keeps t all) = all
  all_of (Makes n) = []
  all_of (Ends shards) = []

  -- the shards that are over
  abbrev pub over_in : Role E → List (Shard E)
  over_in (Ends shards) = shards
  over_in role = []

  -- what holds of one seat
  pub record Fits (seat : ℕ → ℕ) (log : List (Entry E)) (by : ℕ) (v : View E) : Type 0 where
    pub seen : IsPrefix v.seen log
    pub heard : IsPrefix v.heard log
    pub mine : v.acts ≡ true → calls_by by log ≡ v.mine
    pub who : v.acts ≡ true → v.who ≡ by
    pub met : IfSome v.met (λ k. k ≢ by)
    pub role : Plays v.role by seat log

  -- nobody acts from this seat
  abbrev pub NotActing : List (View E) → ℕ → Type 0
  NotActing views k = (u : View E) → get_elem? views k ≡ some u → u.acts ≡ true → ⊥

  -- the calls of this pass are over, these are its entries in the log, and it has seen a beginning
  pub record Gone (views : List (View E)) (log : List (Entry E)) (p : Past E) : Type 0 where
    pub there : p.who < length views
    pub idle : NotActing views p.who
    pub all : calls_by p.who log ≡ p.mine
    pub seen : IsPrefix p.seen log

  abbrev pub AllGone : List (View E) → List (Entry E) → List (Past E) → Type 0
  AllGone views log [] = Unit {0}
  AllGone views log (p ∷ ps) = Gone views log p × AllGone views log ps

  -- none of these has this number
  abbrev pub Apart : ℕ → List (Past E) → Type 0
  Apart who [] = Unit {0}
  Apart who (p ∷ ps) = (p.who ≢ who) × Apart who ps

  -- no two of these have one number
  abbrev pub Distinct : List (Past E) → Type 0
  Distinct [] = Unit {0}
  Distinct (p ∷ ps) = Apart p.who ps × Distinct ps

  abbrev pub Retired : List (View E) → List (Entry E) → View E → Type 0
  Retired views log v = Distinct v.gone × AllGone views log v.gone

  -- there is one log, which is legal, of which each seat knows a beginning, and all of its own
  pub record Kept (legal : ℕ → List E → Type 0) (views : List (View E)) : Type 0 where
    pub log : List (Entry E)
    pub seat : ℕ → ℕ
    pub is_legal : IsLegal legal log
    pub fits : (by : ℕ) (v : View E) → get_elem? views by ≡ some v → Fits seat log by v
    pub fresh : (by : ℕ) → length views ≤ by → calls_by by log ≡ []
    pub gone : (by : ℕ) (v : View E) → get_elem? views by ≡ some v → Retired views log v

  abbrev pub view : Bool → ℕ → Role E → List (Entry E) → List (Entry E) → List (Entry E) → View E
  view acts who role seen heard mine =
      record {
        acts = acts;
        who = who;
        role = role;
        seen = seen;
        heard = heard;
        mine = mine;
        met = None;
        gone = [];
      }

  -- who makes the keepers of the shards from n on
  abbrev pub as_maker : ℕ → View E
  as_maker n = view false 0 (Makes n) [] [] []

  -- the keeper of a shard, which has these entries
  abbrev pub as_keeper : ℕ → List (Entry E) → View E
  as_keeper s all = view false 0 (Keeps s all) [] [] []

  -- a pass that has seen so much, with these entries of its own
  abbrev pub as_pass : ℕ → List (Entry E) → List (Entry E) → View E
  as_pass who seen mine = view true who Idle seen [] mine

  -- a beginning of the log, to be told to others
  abbrev pub as_told : List (Entry E) → View E
  as_told seen = view false 0 Idle seen [] []

  abbrev pub nobody : View E
  nobody = view false 0 Idle [] [] []

  -- a pass that has met another, which is spent
  abbrev pub meeting : View E → View E → View E
  meeting v w =
      record {
        acts = v.acts;
        who = v.who;
        role = v.role;
        seen = v.seen;
        heard = w.seen;
        mine = v.mine;
        met = Some w.who;
        gone = [];
      }

  -- who collects the passes whose calls are over, and the shards
  abbrev pub as_closer : List (Past E) → List (Shard E) → View E
  as_closer gone shards =
      record {
        acts = false;
        who = 0;
        role = Ends shards;
        seen = [];
        heard = [];
        mine = [];
        met = None;
        gone = gone;
      }

  abbrev pub past_of : View E → Past E
  past_of w = record { who = w.who; mine = w.mine; seen = w.seen }

  abbrev pub over_of : View E → Shard E
  over_of w = record { shard = shard_of w.role; all = all_of w.role }

  -- in the log each of these passes has just its entries, and each has seen a beginning of it
  abbrev pub AllStand : List (Entry E) → List (Past E) → Type 0
  AllStand log [] = Unit {0}
  AllStand log (p ∷ ps) =
      (calls_by p.who log ≡ p.mine) × IsPrefix p.seen log × AllStand log ps

  -- and of each of these shards just these
  abbrev pub AllOver : List (Entry E) → List (Shard E) → Type 0
  AllOver log [] = Unit {0}
  AllOver log (x ∷ shards) = (x.all ≡ of_shard x.shard log) × AllOver log shards

  -- one legal log has all entries of all of these passes, each once, in the order of its pass, and
  -- of these shards just theirs; what each of the passes has seen is a beginning of it
  pub record OneLog (legal : ℕ → List E → Type 0) (passes : List (Past E))
      (shards : List (Shard E)) : Type 0 where
    pub log : List (Entry E)
    pub is_legal : IsLegal legal log
    pub distinct : Distinct passes
    pub stand : AllStand log passes
    pub over : AllOver log shards

  -- a new pass has seen the log as it is, and has no entries in it
  abbrev pub Arrives : (ℕ → List E → Type 0) → View E → Type 0
  Arrives legal w =
      (who : ℕ) × (log : List (Entry E)) × (w ≡ as_pass who log [])
      × IsLegal legal log × (calls_by who log ≡ [])

  -- the log as it is was seen: it goes on what was seen, and on what was heard
  abbrev pub Observes : (ℕ → List E → Type 0) → View E → View E → Type 0
  Observes legal v w =
      (more : List (Entry E)) × (w ≡ view v.acts v.who v.role (v.seen ++ more) [] v.mine)
      × IsPrefix v.heard (v.seen ++ more) × IsLegal legal (v.seen ++ more)
      × (v.acts ≡ true → (calls_by v.who (v.seen ++ more) ≡ v.mine) × IfSome v.met (λ k. k ≢ v.who))
      × ((s : ℕ) → Owns v.role s → Knows v.role s (of_shard s (v.seen ++ more)))

  -- the entry was added to all that there is
  abbrev pub Adds : (ℕ → List E → Type 0) → ℕ → E → View E → View E → Type 0
  Adds legal s what v w =
      (between : List (Entry E))
      × (w ≡ view v.acts v.who (Keeps s (all_of v.role ++ entry v.who s what ∷ []))
      ((v.seen ++ between) ++ entry v.who s what ∷ []) [] (v.mine ++ entry v.who s what ∷ []))
      × (all_of v.role ≡ of_shard s (v.seen ++ between))
      × IsLegal legal ((v.seen ++ between) ++ entry v.who s what ∷ [])
      × (calls_by v.who (v.seen ++ between) ≡ v.mine)

  -- the seat is a pass of the book
  pub record IsPass (table : TableId) (is : TableId) (me : View E × List (ℕ × Unit {0}))
      : Type 0 where
    pub own : is ≡ table
    pub view_is : me ≡ (as_pass me.0.who me.0.seen me.0.mine, [])
    pub mine : calls_by me.0.who me.0.seen ≡ me.0.mine

  -- the seat is a keeper of the book
  pub record IsKeeper (table : TableId) (is : TableId) (me : View E × List (ℕ × Unit {0}))
      : Type 0 where
    pub own : is ≡ table
    pub view_is : me ≡ (as_keeper (shard_of me.0.role) (all_of me.0.role), [])

  -- the seat may add this, if something was picked: it keeps a shard, of which that may be the
  -- next entry
  abbrev pub MayAdd : (ℕ → List E → Type 0) → Option E → View E → Type 0
  MayAdd legal picked v =
      (v.acts ≡ true) × (v.role ≡ Keeps (shard_of v.role) (all_of v.role))
      × ((what : E) × (picked ≡ Some what)
      × legal (shard_of v.role) (whats (all_of v.role) ++ what ∷ []))

  -- the pass has one entry more, at the end of all that there is. `between` is what came since it
  -- last saw the log, and none of it is the pass's own. The keeper had all of its shard
  pub record NotesOn (legal : ℕ → List E → Type 0) (keeper : KeeperView E) (what : E)
      (old new : PassView E) : Type 0 where
    pub between : List (Entry E)
    pub who : new.who ≡ old.who
    pub seen : new.seen ≡ (old.seen ++ between) ++ entry old.who keeper.shard what ∷ []
    pub mine : new.mine ≡ old.mine ++ entry old.who keeper.shard what ∷ []
    pub own : calls_by old.who between ≡ []
    pub all : keeper.all ≡ of_shard keeper.shard (old.seen ++ between)
    pub is_legal : IsLegal legal new.seen

  -- the pass has seen the log go on by `more`, none of which is its own
  pub record SeesOn (legal : ℕ → List E → Type 0) (old new : PassView E) : Type 0 where
    pub more : List (Entry E)
    pub who : new.who ≡ old.who
    pub seen : new.seen ≡ old.seen ++ more
    pub mine : new.mine ≡ old.mine
    pub own : calls_by old.who more ≡ []
    pub is_legal : IsLegal legal new.seen
