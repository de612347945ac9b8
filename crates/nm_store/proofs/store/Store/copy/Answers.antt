-- There is something to copy, so the leg has a copy to go on with, and its chunk has some blocks.
-- What was done at its place was done for the leg and the lowest region that were asked for.
use Rattle.std.proofs.Common.{sym, ◌∙◌}
use Rattle.nm_leg.specs.Leg.{leg_type}
use Rattle.nm_rules.specs.Copy.{chunk_of}
use Rattle.nm_store.proofs.CopyLemmas.{fails-of, goes-place, goes-some, goes-somewhere, reads-of}
use Rattle.nm_store.proofs.store.Store.copy.Goals as goal

pub unwrap-copy-requires : goal.unwrap-copy-requires
unwrap-copy-requires g c = rw c.copy_of.ensures (goes-somewhere c.args.self.now c.args.leg c.args.from c.requires.more)

pub copy_read-requires-clause-short : goal.copy_read-requires-clause-short
copy_read-requires-clause-short g c =
    let copy = c.unwrap-copy.result in
    let on = goes-place c.args.self.now c.args.leg c.args.from copy c.requires.asked c.requires.more c.requires.free (sym c.copy_of.ensures ∙ c.unwrap-copy.ensures) in
    goes-some _ c.args.self.now c.args.leg c.args.from copy (chunk_of copy c.args.self.now) c.requires.keeps on

pub returns-in-Open-clause-copied : goal.returns-in-Open-clause-copied
returns-in-Open-clause-copied g c =
    let type = leg_type g.L.LegPart.model g.L.LegPart.honest in
    let copy = c.unwrap-copy.result in
    let on = goes-place c.args.self.now c.args.leg c.args.from copy c.requires.asked c.requires.more c.requires.free (sym c.copy_of.ensures ∙ c.unwrap-copy.ensures) in
    reads-of type c.args.self.now c.copy_read.new.self c.args.leg c.args.most c.args.from copy c.requires.keeps on c.copy_read.result c.copy_read.ensures.read

pub returns-in-Open-clause-failed : goal.returns-in-Open-clause-failed
returns-in-Open-clause-failed g c =
    let type = leg_type g.L.LegPart.model g.L.LegPart.honest in
    let copy = c.unwrap-copy.result in
    let on = goes-place c.args.self.now c.args.leg c.args.from copy c.requires.asked c.requires.more c.requires.free (sym c.copy_of.ensures ∙ c.unwrap-copy.ensures) in
    fails-of type c.args.self.now c.copy_read.new.self c.args.leg c.args.most c.args.from copy c.requires.keeps on c.copy_read.result c.copy_read.ensures.failed

pub returns-in-Read-clause-failed : goal.returns-in-Read-clause-failed
returns-in-Read-clause-failed g c =
    let type = leg_type g.L.LegPart.model g.L.LegPart.honest in
    let copy = c.unwrap-copy.result in
    let on = goes-place c.args.self.now c.args.leg c.args.from copy c.requires.asked c.requires.more c.requires.free (sym c.copy_of.ensures ∙ c.unwrap-copy.ensures) in
    fails-of type c.args.self.now c.copy_read-in-Read.new.self c.args.leg c.args.most c.args.from copy c.requires.keeps on c.copy_read-in-Read.result c.copy_read-in-Read.ensures.failed

pub returns-in-Write-clause-failed : goal.returns-in-Write-clause-failed
returns-in-Write-clause-failed g c =
    let type = leg_type g.L.LegPart.model g.L.LegPart.honest in
    let copy = c.unwrap-copy.result in
    let on = goes-place c.args.self.now c.args.leg c.args.from copy c.requires.asked c.requires.more c.requires.free (sym c.copy_of.ensures ∙ c.unwrap-copy.ensures) in
    fails-of type c.args.self.now c.copy_write.new.self c.args.leg c.args.most c.args.from copy c.requires.keeps on c.copy_write.result c.copy_write.ensures.failed
