-- The file that was pushed was opened by the next name.
use Rattle.std.proofs.Common.{arith, ◌≡◌, ◌<◌, length, true, not, is_ok, ap, sym, ◌∙◌, map, take}
use Rattle.std.proofs.lemmas.List.{map_more}
use Rattle.nm_leg_files.specs.Files.{name_of}
use Rattle.nm_leg_files.specs.Here.{is_here}
use Rattle.nm_leg_files.proofs.Pushing.{all-pass-more, any-more, has-one-more, one-row-more}
use Rattle.nm_leg_files.proofs.leg_files.LegFiles.open.Goals as goal

pub loop-number-preserved : goal.loop-number-preserved
loop-number-preserved g c =
    let went : is_ok c.push.result ≡ true =
    c.is_err.ensures.negation ∙ ap not c.if-is_err.false in
    let pushed = has-one-more (is_ok c.push.result) c.loop-number.files.items
    c.push.new.self.items _ went c.push.ensures.items in
    let inside : c.loop-number.number < length c.args.names.now = omega arith in
    record {
      named = one-row-more c.loop-number.files.items c.push.new.self.items _ name_of
          (map (λ name. name.now) (take c.loop-number.number c.args.names.now)) _
          pushed c.loop-number.invariant.named c.in_ok-leg.ensures.name
          ∙ sym (map_more (λ name. name.now) c.args.names.now c.loop-number.number _ inside);
      some = any-more c.loop-number.files.items c.push.new.self.items _ is_here _ _
          pushed c.loop-number.invariant.some c.in_ok-leg.ensures.first;
      all = λ strict. all-pass-more c.loop-number.files.items c.push.new.self.items _ is_here
          pushed (c.loop-number.invariant.all strict) (c.in_ok-leg.ensures.here strict);
      most = c.in_ok-leg.ensures.blocks;
    }
