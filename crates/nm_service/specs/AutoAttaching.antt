-- When a leg that went out by a failed call is attached again by itself. Times are milliseconds.
use Rattle.std.specs.Prelude.{◌≡◌, ◌<◌, ◌≤◌, ℕ, ◌+◌, ◌*◌, ◌-◌, ◌^◌, Bool, true, false, Option}
use Rattle.std.specs.Prelude.{None, Some, min}
use Rattle.nm_service.specs.Changes.{LacksNothing}
use Rattle.nm_service.specs.declared.leg_change.LegSight.{LegSight}
use Rattle.nm_service.specs.declared.auto_attach.AttachTime.{AttachTime}
use Rattle.nm_service.specs.declared.auto_attach.AttachTime.TheVariants.{Now, At, Never}
use Rattle.nm_service.specs.declared.auto_attach.AutoAttach.{AutoAttach}
use Rattle.nm_service.specs.declared.auto_attach.LegEvent.{LegEvent}
use Rattle.nm_service.specs.declared.auto_attach.LegEvent.TheVariants.{OutByFault, OutByFail}
use Rattle.nm_service.specs.declared.auto_attach.LegEvent.TheVariants.{Attached, InSync, Time}

-- how a leg stands, as an event; that it was taken out by hand counts only while it is out
pub record IsEventOf (leg : LegSight) (by_hand : Bool) (event : LegEvent) : Type 0 where
  pub by_fault : 0 < leg.out → by_hand ≡ false → event ≡ OutByFault
  pub by_fail : 0 < leg.out → by_hand ≡ true → event ≡ OutByFail
  pub attached : leg.out ≡ 0 → 0 < leg.joining → event ≡ Attached
  pub in_sync : LacksNothing leg → event ≡ InSync

-- no try was made since the leg was in sync or taken out by hand: the first comes after 10 seconds
abbrev pub untried : AutoAttach
untried = record { wait = 10000; tries = 0; due = None }

-- no try is to come
abbrev pub resting : AutoAttach → AutoAttach
resting old = record old { due = None }

-- the next try: the one that is to come, else one after the time to wait
abbrev pub next_due : Option ℕ → (wait now : ℕ) → ℕ
next_due None wait now = min (now + wait) (2 ^ 64 - 1)
next_due (Some due) wait now = due

-- a try was made: the one after it waits twice as long, at most an hour
abbrev pub tried : AutoAttach → AutoAttach
tried old = record {
  wait = min (2 * old.wait) 3600000;
  tries = min (old.tries + 1) (2 ^ 64 - 1);
  due = None;
}

-- at this time a try is made where one is due
abbrev pub Looks : Option ℕ → ℕ → AutoAttach → AttachTime → AutoAttach → Type 0
Looks None now old answer new = (new ≡ old) × (answer ≡ Never)
Looks (Some due) now old answer new =
    (due ≤ now → (new ≡ tried old) × (answer ≡ Now new.tries))
    × (now < due → (new ≡ old) × (answer ≡ At due))

-- what an event makes of the tries, and when the next one is
abbrev pub Takes : LegEvent → ℕ → AutoAttach → AttachTime → AutoAttach → Type 0
Takes OutByFault now old answer new = let due = next_due old.due old.wait now in
    (new ≡ record old { due = Some due }) × (answer ≡ At due)
Takes OutByFail now old answer new = (new ≡ untried) × (answer ≡ Never)
Takes Attached now old answer new = (new ≡ resting old) × (answer ≡ Never)
Takes InSync now old answer new = (new ≡ untried) × (answer ≡ Never)
Takes Time now old answer new = Looks old.due now old answer new
