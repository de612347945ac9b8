-- Each sector's stamp is taken where it is higher.
use Rattle.std.proofs.Common.{◌≡◌, ℕ, subst, arith}
use Rattle.nm_superblock.specs.Slots.{IsHighestStamp}
use Rattle.nm_superblock.proofs.Highest.{first-highest, higher-highest}
use Rattle.nm_superblock.proofs.place.highest_stamp.Goals as goal

pub sectors-init : goal.sectors-init
sectors-init c = first-highest c.args.slot.now

pub sectors-preserved : goal.sectors-preserved
sectors-preserved c =
    higher-highest c.args.slot.now c.sectors.number c.sectors.highest c.higher-highest.result c.sectors.invariant
    c.higher-highest.ensures.first c.read_tried.result c.read_tried.ensures.magic c.read_tried.ensures.stands c.higher-highest.ensures.second c.higher-highest.ensures.one

pub returns : goal.returns
returns c =
    let end : c.sectors.number ≡ 8 = omega arith in
    subst (λ (n : ℕ). IsHighestStamp n c.args.slot.now c.sectors.highest) end c.sectors.invariant
