-- The run is written and noted, or the write failed and is noted.
use Rattle.std.proofs.Common.{rules, ◌≡◌, ℕ, ◌+◌, ◌/◌, ◌≤◌, Bool, true, false, length, subst, arith}
use Rattle.nm_leg.specs.Leg.{IsRun}
use Rattle.nm_geometry.specs.Geometry.{stripe_blocks}
use Rattle.nm_file_leg.specs.Blocks.{length-blocks_from}
use Rattle.nm_file_leg.specs.Remembered.{NotesWrite, learnt}
use Rattle.nm_file_leg.proofs.LegLemmas.{writes-failed, writes-marked, writes-run}
use Rattle.nm_file_leg.proofs.RuleLemmas.{keeps-run, rules-told, rules-write, owns-kept}
use Rattle.nm_file_leg.proofs.RememberedLemmas.{notes-learnt}
use Rattle.nm_file_leg.proofs.file_leg.FileLeg.write_seen.Goals as goal

pub is_whole_at-keeps_holes-requires-clause-inside : goal.is_whole_at-keeps_holes-requires-clause-inside
is_whole_at-keeps_holes-requires-clause-inside g c =
    let leg = c.args.self.now in
    omega (arith, (rules-told _ (g.M.Medium.held leg.medium) leg.stripe leg.shape leg.writes leg.dirty leg.bounds leg.rules c.tells_loss-self.result c.learn_loss.new.writes c.learn_loss.ensures).blocks, c.requires.inside, length-blocks_from leg.stripe leg.shape 0 (stripe_blocks leg.stripe leg.shape) (g.M.Medium.held leg.medium).contents)

pub write_if_long-is_written-requires-clause-run : goal.write_if_long-is_written-requires-clause-run
write_if_long-is_written-requires-clause-run g c =
    let leg = c.args.self.now in
    subst (λ (n : ℕ). IsRun c.args.at n c.args.bytes.now) (length-blocks_from leg.stripe leg.shape _ _ _) c.requires

pub write_if_long-is_written-requires-clause-kept : goal.write_if_long-is_written-requires-clause-kept
write_if_long-is_written-requires-clause-kept g c =
    let leg = c.args.self.now in
    let inside : c.args.at + length c.args.bytes.now / 512 ≤ stripe_blocks leg.stripe leg.shape = omega (arith, c.requires.inside, length-blocks_from leg.stripe leg.shape 0 (stripe_blocks leg.stripe leg.shape) (g.M.Medium.held leg.medium).contents) in
    λ is_honest whole. keeps-run _ (g.M.Medium.held leg.medium) leg.stripe leg.shape c.learn_loss.new.writes leg.dirty leg.bounds (rules-told _ (g.M.Medium.held leg.medium) leg.stripe leg.shape leg.writes leg.dirty leg.bounds leg.rules c.tells_loss-self.result c.learn_loss.new.writes c.learn_loss.ensures) c.args.at c.args.bytes.now inside (c.is_whole_at-keeps_holes.ensures.0 whole) is_honest

pub note_write-requires-clause-inside : goal.note_write-requires-clause-inside
note_write-requires-clause-inside g c =
    let leg = c.args.self.now in
    omega (arith, (rules-told _ (g.M.Medium.held leg.medium) leg.stripe leg.shape leg.writes leg.dirty leg.bounds leg.rules c.tells_loss-self.result c.learn_loss.new.writes c.learn_loss.ensures).blocks, c.requires.inside, length-blocks_from leg.stripe leg.shape 0 (stripe_blocks leg.stripe leg.shape) (g.M.Medium.held leg.medium).contents)

pub invariant_of-self : goal.invariant_of-self
invariant_of-self g c =
    let leg = c.args.self.now in
    let inside : c.args.at + length c.args.bytes.now / 512 ≤ stripe_blocks leg.stripe leg.shape = omega (arith, c.requires.inside, length-blocks_from leg.stripe leg.shape 0 (stripe_blocks leg.stripe leg.shape) (g.M.Medium.held leg.medium).contents) in
    record { bounds = leg.bounds; inside = leg.inside; owns = owns-kept _ leg.stripe leg.shape (g.M.Medium.held leg.medium) (g.M.Medium.held c.write_if_long-is_written.new.medium) c.write_if_long-is_written.ensures.writes.own leg.owns; rules = rules-write _ _ leg.stripe leg.shape c.learn_loss.new.writes leg.dirty leg.bounds (rules-told _ (g.M.Medium.held leg.medium) leg.stripe leg.shape leg.writes leg.dirty leg.bounds leg.rules c.tells_loss-self.result c.learn_loss.new.writes c.learn_loss.ensures) _ c.args.at c.args.bytes.now _ _ leg.inside inside c.note_write.ensures.notes c.write_if_long-is_written.ensures.writes }

pub invariant_of-self-else-not-is_written : goal.invariant_of-self-else-not-is_written
invariant_of-self-else-not-is_written g c =
    let leg = c.args.self.now in
    let inside : c.args.at + length c.args.bytes.now / 512 ≤ stripe_blocks leg.stripe leg.shape = omega (arith, c.requires.inside, length-blocks_from leg.stripe leg.shape 0 (stripe_blocks leg.stripe leg.shape) (g.M.Medium.held leg.medium).contents) in
    record { bounds = leg.bounds; inside = leg.inside; owns = owns-kept _ leg.stripe leg.shape (g.M.Medium.held leg.medium) (g.M.Medium.held c.write_if_long-is_written.new.medium) c.write_if_long-is_written.ensures.writes.own leg.owns; rules = rules-write _ _ leg.stripe leg.shape c.learn_loss.new.writes leg.dirty leg.bounds (rules-told _ (g.M.Medium.held leg.medium) leg.stripe leg.shape leg.writes leg.dirty leg.bounds leg.rules c.tells_loss-self.result c.learn_loss.new.writes c.learn_loss.ensures) _ c.args.at c.args.bytes.now _ _ leg.inside inside c.note_write.ensures.notes c.write_if_long-is_written.ensures.writes }

pub returns-then-not-is_written-clause-writes : goal.returns-then-not-is_written-clause-writes
returns-then-not-is_written-clause-writes g c =
    let leg = c.args.self.now in
    writes-marked (writes-failed _ _ leg.stripe leg.shape _ c.args.bytes.now _ _ leg.bounds leg.inside c.write_if_long-is_written.ensures.writes _ _ c.count_fault.ensures)

pub returns-clause-writes : goal.returns-clause-writes
returns-clause-writes g c =
    let leg = c.args.self.now in
    let inside : c.args.at + length c.args.bytes.now / 512 ≤ stripe_blocks leg.stripe leg.shape = omega (arith, c.requires.inside, length-blocks_from leg.stripe leg.shape 0 (stripe_blocks leg.stripe leg.shape) (g.M.Medium.held leg.medium).contents) in
    writes-marked (writes-run _ _ leg.stripe leg.shape _ c.args.bytes.now _ _ leg.bounds leg.inside c.write_if_long-is_written.ensures.writes _ (search rules) inside leg.owns)

pub returns-then-not-is_written-clause-noted : goal.returns-then-not-is_written-clause-noted
returns-then-not-is_written-clause-noted g c =
    let old = c.args.self.now.writes in
    let failed : c.write_if_long-is_written.result ≡ false = search rules in
    subst (λ (b : Bool). NotesWrite b c.args.at (length c.args.bytes.now / 512) (learnt c.tells_loss-self.result old) c.note_write.new.self) failed
    (notes-learnt c.tells_loss-self.result c.write_if_long-is_written.result c.args.at (length c.args.bytes.now / 512) old c.learn_loss.new.writes c.note_write.new.self c.learn_loss.ensures c.note_write.ensures.notes)

pub returns-clause-noted : goal.returns-clause-noted
returns-clause-noted g c =
    let old = c.args.self.now.writes in
    let done : c.write_if_long-is_written.result ≡ true = search rules in
    subst (λ (b : Bool). NotesWrite b c.args.at (length c.args.bytes.now / 512) (learnt c.tells_loss-self.result old) c.note_write.new.self) done
    (notes-learnt c.tells_loss-self.result c.write_if_long-is_written.result c.args.at (length c.args.bytes.now / 512) old c.learn_loss.new.writes c.note_write.new.self c.learn_loss.ensures c.note_write.ensures.notes)
