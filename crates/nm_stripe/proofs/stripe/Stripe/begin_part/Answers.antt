-- A begin of a part is read off its calls once, and the lemmas on begins do the rest.
use Rattle.nm_leg.specs.Leg.{leg_type, block_of, blocks_of}
use Rattle.std.proofs.Common.{rules, ◌≡◌, ◌+◌, ◌^◌, ℕ, ◌<◌, true, false, is_ok, length, None, refl, sym, ◌∙◌, subst}
use Rattle.nm_fanout.specs.declared.block_data.Data.{Data}
use Rattle.nm_fanout.specs.Data.{data_blocks, is_part}
use Rattle.nm_fanout.specs.Records.{AllBelow, runs_in}
use Rattle.nm_rules.specs.Begin.{Begins, LosesInBegin, FailsInBegin, begin_cause}
use Rattle.nm_rules.specs.RunBegin.{begin_run_cause}
use Rattle.nm_rules.specs.Runs.{FitsRun}
use Rattle.nm_rules.specs.State.{StripeState, is_last}
use Rattle.nm_rules.proofs.BeginLemmas.{fails_in_begin-explained}
use Rattle.nm_rules.proofs.HaltLemmas.{begin_fault-keeps}
use Rattle.nm_rules.proofs.LostStepLemmas.{begin_lost-keeps, begin_lost-acts}
use Rattle.nm_rules.proofs.StateLemmas.{master_inside}
use Rattle.nm_stripe.specs.Begin.{BeginsWith, ForFault}
use Rattle.nm_stripe.proofs.LostLemmas.{last-from}
use Rattle.nm_stripe.proofs.ReadLemmas.{has-run, read-inside}
use Rattle.nm_stripe.proofs.BeginLemmas.{part-one, reads-at, room, still-current, part-begins, begins-part, begins-with, begun-keeps, begun-explained, loses, fails}
use Rattle.nm_stripe.proofs.stripe.Stripe.begin_part.Goals.{Then-is_ok, Else-is_ok}
use Rattle.nm_stripe.proofs.stripe.Stripe.begin_part.Goals as goal

pub read_leg-requires-clause-leg : goal.read_leg-requires-clause-leg
read_leg-requires-clause-leg g c =
    let s = c.self.inside.store in
    let here : c.master-master.result ≡ s.master = search rules in
    rw here (master_inside g.L.LegPart.model s c.self.invariant.legs)

pub read_leg-requires-clause-run : goal.read_leg-requires-clause-run
read_leg-requires-clause-run g c =
    let s = c.self.inside.store in
    let here : c.master-master.result ≡ s.master = search rules in
    let fits : FitsRun s.place c.args.block 1 = subst (λ (n : ℕ). FitsRun s.place c.args.block n) (part-one c.args.data c.requires.part) (subst (λ (s : StripeState _). FitsRun s.place c.args.block (data_blocks c.args.data)) (sym c.self.view_is) c.requires.run) in
    rw here (has-run g.L.LegPart.model s s.master c.args.block _ c.self.invariant.legs (master_inside g.L.LegPart.model s c.self.invariant.legs) fits refl)

pub begin-requires-clause-current : goal.begin-requires-clause-current
begin-requires-clause-current g c =
    let type = leg_type g.L.LegPart.model g.L.LegPart.honest in
    still-current type c.self.inside.store c.read_leg.new.self c.args.block c.self.invariant c.read_leg.ensures.others

-- there is room for the part's record, and a ticket
has_room : (g : _) (c : Then-is_ok g) → (runs_in c.read_leg.new.self.records < 256) × AllBelow c.read_leg.new.self.tickets c.read_leg.new.self.records × (c.read_leg.new.self.tickets + data_blocks c.args.data < 2 ^ 64)
has_room g c =
    let type = leg_type g.L.LegPart.model g.L.LegPart.honest in
    let s = c.self.inside.store in
    let cause : begin_run_cause s c.args.block (data_blocks c.args.data) ≡ None = subst (λ (s : StripeState _). begin_run_cause s c.args.block (data_blocks c.args.data) ≡ None) (sym c.self.view_is) c.requires.no_cause in
    room type s c.read_leg.new.self c.args.block (data_blocks c.args.data) c.self.invariant cause c.read_leg.ensures.others

pub begin-requires-clause-few : goal.begin-requires-clause-few
begin-requires-clause-few g c = (has_room g (goal.at.begin-requires-clause-few g c).Then-is_ok).0

pub begin-requires-clause-next : goal.begin-requires-clause-next
begin-requires-clause-next g c = (has_room g (goal.at.begin-requires-clause-next g c).Then-is_ok).1

pub begin-requires-clause-more : goal.begin-requires-clause-more
begin-requires-clause-more g c = (has_room g (goal.at.begin-requires-clause-more g c).Then-is_ok).2

-- nothing forbids the part's begin in the stripe that is seen so
may_begin : {L : Type 0} (old view : StripeState L) (block : ℕ) (bytes : Data) → old ≡ view → is_part bytes ≡ true → begin_run_cause view block (data_blocks bytes) ≡ None → begin_cause old block ≡ None
may_begin old view block bytes same part none =
    part-begins old block bytes part (subst (λ (s : StripeState _). begin_run_cause s block (data_blocks bytes) ≡ None) (sym same) none)

-- the master's block was read, and the part laid over it
begun : (g : _) (c : goal.After-begin g) → BeginsWith (leg_type g.L.LegPart.model g.L.LegPart.honest) c.self.inside.store c.begin.new.self c.args.block c.args.data c.begin.result
begun g c =
    let type = leg_type g.L.LegPart.model g.L.LegPart.honest in
    let s = c.self.inside.store in
    let mid = c.read_leg.new.self in
    let bytes = c.read_leg.new.into in
    let new = c.begin.new.self in
    let whole : length bytes ≡ 512 = c.read_leg.ensures.long in
    let none : begin_cause s c.args.block ≡ None = may_begin s _ c.args.block c.args.data c.self.view_is c.requires.part c.requires.no_cause in
    let here : c.master-master.result ≡ s.master = search rules in
    let ok : is_ok c.read_leg.result ≡ true = search rules in
    let reads = reads-at type true s mid c.args.block bytes ok here whole c.read_leg.ensures.reads in
    let is : Begins type s new c.args.block c.args.data c.begin.result = begins-part type s mid new c.args.block c.args.data (block_of bytes) c.read_leg.ensures.others none c.requires.part c.begin.result c.begin.ensures.filled reads c.begin.ensures.ticket c.begin.ensures.begun in
    begins-with type s new c.args.block c.args.data c.begin.result c.requires.part is

pub invariant_of-self : goal.invariant_of-self
invariant_of-self g c =
    let s = c.self.inside.store in
    let fits : FitsRun s.place c.args.block (data_blocks c.args.data) = subst (λ (s : StripeState _). FitsRun s.place c.args.block (data_blocks c.args.data)) (sym c.self.view_is) c.requires.run in
    begun-keeps _ s c.begin.new.self c.args.block c.args.data c.begin.result c.self.invariant (begun g c) fits c.requires.fits

pub returns-then-is_ok-clause-ok : goal.returns-then-is_ok-clause-ok
returns-then-is_ok-clause-ok g c = rw (← c.self.view_is) (begun g c)

pub returns-then-is_ok-clause-acts : goal.returns-then-is_ok-clause-acts
returns-then-is_ok-clause-acts g c is_honest =
    rw (← c.self.view_is) (begun-explained _ c.self.inside.store c.begin.new.self c.args.block c.args.data c.begin.result c.self.invariant (begun g c) c.requires.fits is_honest)

-- a master that failed is there as before
there : (g : _) (c : Else-is_ok g) → c.master-master.result < length c.read_leg.new.self.legs
there g c =
    let type = leg_type g.L.LegPart.model g.L.LegPart.honest in
    let s = c.self.inside.store in
    let here : c.master-master.result ≡ s.master = search rules in
    let master : c.master-master.result < length s.legs = rw here (master_inside g.L.LegPart.model s c.self.invariant.legs) in
    read-inside type (is_ok c.read_leg.result) s.legs c.read_leg.new.self.legs c.args.block c.master-master.result (blocks_of c.read_leg.new.into) c.read_leg.ensures.reads master

pub is_last-requires : goal.is_last-requires
is_last-requires g c = there g (goal.at.is_last-requires g c).Else-is_ok

pub lose-requires-clause-leg : goal.lose-requires-clause-leg
lose-requires-clause-leg g c = there g (goal.at.lose-requires-clause-leg g c).Else-is_ok

-- the master failed, the only leg in sync
fault : (g : _) (c : goal.Then-is_last g) → FailsInBegin (leg_type g.L.LegPart.model g.L.LegPart.honest) c.self.inside.store c.read_leg.new.self c.args.block c.args.data
fault g c =
    let type = leg_type g.L.LegPart.model g.L.LegPart.honest in
    let s = c.self.inside.store in
    let mid = c.read_leg.new.self in
    let bytes = c.read_leg.new.into in
    let whole : length bytes ≡ 512 = c.read_leg.ensures.long in
    let none : begin_cause s c.args.block ≡ None = may_begin s _ c.args.block c.args.data c.self.view_is c.requires.part c.requires.no_cause in
    let here : c.master-master.result ≡ s.master = search rules in
    let ok : is_ok c.read_leg.result ≡ false = search rules in
    let reads = reads-at type false s mid c.args.block bytes ok here whole c.read_leg.ensures.reads in
    let given : c.is_last.result ≡ true = search rules in
    let last : is_last s.master s ≡ true = last-from s.master s mid c.is_last.result c.read_leg.ensures.others (rw (← here) c.is_last.ensures) ∙ given in
    fails type s mid c.args.block c.args.data (block_of bytes) c.read_leg.ensures.others none c.requires.part reads last

pub invariant_of-self-then-is_last : goal.invariant_of-self-then-is_last
invariant_of-self-then-is_last g c = begin_fault-keeps _ _ _ c.self.invariant _ _ (fault g c)

pub returns-then-is_last-clause-refused : goal.returns-then-is_last-clause-refused
returns-then-is_last-clause-refused g c = rw (← c.self.view_is) (ForFault refl (fault g c))

pub returns-then-is_last-clause-refused_acts : goal.returns-then-is_last-clause-refused_acts
returns-then-is_last-clause-refused_acts g c is_honest =
    rw (← c.self.view_is) (fails_in_begin-explained _ _ _ _ _ is_honest c.self.invariant (fault g c))

-- the master failed, and has gone out
gone_out : (g : _) (c : goal.After-lose g) → LosesInBegin (leg_type g.L.LegPart.model g.L.LegPart.honest) c.self.inside.store c.lose.new.self c.args.block c.args.data c.self.inside.store.master
gone_out g c =
    let type = leg_type g.L.LegPart.model g.L.LegPart.honest in
    let s = c.self.inside.store in
    let mid = c.read_leg.new.self in
    let bytes = c.read_leg.new.into in
    let whole : length bytes ≡ 512 = c.read_leg.ensures.long in
    let none : begin_cause s c.args.block ≡ None = may_begin s _ c.args.block c.args.data c.self.view_is c.requires.part c.requires.no_cause in
    let here : c.master-master.result ≡ s.master = search rules in
    let ok : is_ok c.read_leg.result ≡ false = search rules in
    let reads = reads-at type false s mid c.args.block bytes ok here whole c.read_leg.ensures.reads in
    let given : c.is_last.result ≡ false = search rules in
    let last : is_last s.master s ≡ false = last-from s.master s mid c.is_last.result c.read_leg.ensures.others (rw (← here) c.is_last.ensures) ∙ given in
    loses type s mid c.lose.new.self c.args.block c.args.data (block_of bytes) c.read_leg.ensures.others none c.requires.part reads last (rw (← here) c.lose.ensures)

pub invariant_of-self-2 : goal.invariant_of-self-2
invariant_of-self-2 g c = begin_lost-keeps _ _ _ c.self.invariant _ _ _ (gone_out g c)

pub returns-clause-ok : goal.returns-clause-ok
returns-clause-ok g c =
    let here : c.master-master.result ≡ c.self.inside.store.master = search rules in
    rw (← c.self.view_is, here) (gone_out g c, refl)

pub returns-clause-acts : goal.returns-clause-acts
returns-clause-acts g c is_honest =
    rw (← c.self.view_is) (begin_lost-acts _ _ _ c.self.invariant _ _ _ (gone_out g c) is_honest)
