-- Where nothing is lost the medium is synced, and what came of it is noted.
use Rattle.std.proofs.Common.{rules, IsTrue}
use Rattle.nm_file_leg.proofs.LegLemmas.{syncs-failed, syncs-marked, syncs-medium, syncs-quiet}
use Rattle.nm_file_leg.proofs.RuleLemmas.{ends-sizes, keeps-blocks, rules-synced, rules-failed, owns-kept}
use Rattle.nm_file_leg.proofs.file_leg.FileLegLegPart.sync.Goals as goal

pub returns-then-not-self-clause-syncs : goal.returns-then-not-self-clause-syncs
returns-then-not-self-clause-syncs g c = syncs-marked (syncs-quiet _ c.args.self.now.stripe c.args.self.now.shape _ _ _ _ (search rules) c.args.self.now.rules)

pub invariant_of-self-in-Ok : goal.invariant_of-self-in-Ok
invariant_of-self-in-Ok g c =
    let leg = c.args.self.now in
    let is_whole : IsTrue c.is_whole.result = search rules in
    record { bounds = leg.bounds; inside = leg.inside; owns = owns-kept _ leg.stripe leg.shape (g.M.Medium.held leg.medium) (g.M.Medium.held c.sync.new.self) c.sync.ensures.own leg.owns; rules = rules-synced _ _ leg.stripe leg.shape leg.writes leg.dirty leg.bounds leg.rules _ _ _ (c.is_whole.ensures.0 is_whole) (search rules) (ends-sizes c.is_doubted-self.result leg.writes _ c.end_period.ensures) c.sync.ensures }

pub invariant_of-self-in-Err : goal.invariant_of-self-in-Err
invariant_of-self-in-Err g c =
    let leg = c.args.self.now in
    record { bounds = leg.bounds; inside = leg.inside; owns = owns-kept _ leg.stripe leg.shape (g.M.Medium.held leg.medium) (g.M.Medium.held c.sync.new.self) c.sync.ensures.own leg.owns; rules = rules-failed _ _ leg.stripe leg.shape leg.writes leg.dirty leg.bounds leg.rules _ _ _ (search rules) c.note_failure.ensures c.sync.ensures }

pub returns-in-Ok-clause-syncs : goal.returns-in-Ok-clause-syncs
returns-in-Ok-clause-syncs g c =
    let leg = c.args.self.now in
    let is_whole : IsTrue c.is_whole.result = search rules in
    syncs-marked (syncs-medium _ leg.stripe leg.shape _ _ _ _ (keeps-blocks _ _ leg.stripe leg.shape leg.writes leg.dirty leg.bounds leg.rules (c.is_whole.ensures.0 is_whole)) (search rules) c.sync.ensures)

pub returns-in-Ok-clause-lost : goal.returns-in-Ok-clause-lost
returns-in-Ok-clause-lost g c =
    let is_whole : IsTrue c.is_whole.result = search rules in
    λ _ lost. absurd (lost (c.is_whole.ensures.0 is_whole))

pub returns-in-Err-clause-syncs : goal.returns-in-Err-clause-syncs
returns-in-Err-clause-syncs g c = syncs-marked (syncs-failed _ c.args.self.now.stripe c.args.self.now.shape _ _ _ _ _ c.count_fault-in-Err.ensures c.sync.ensures)
