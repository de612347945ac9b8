-- As many entries come as blocks were read, and the turn passes where the region is quiet.
use Rattle.std.proofs.Common.{◌≡◌, ℕ, ◌+◌, Bool, cond, true, false, length, refl, sym, ap, ◌∙◌, subst}
use Rattle.nm_choice.specs.Choice.{next_turn}
use Rattle.nm_leg.specs.Leg.{blocks_in, blocks_of}
use Rattle.nm_replay.specs.Kept.{kept_with}
use Rattle.nm_rules.specs.Read.{turn_after}
use Rattle.nm_rules.specs.RunRead.{last_block, read_entries}
use Rattle.nm_rules.specs.State.{StripeState, is_quiet, next_number}
use Rattle.nm_rules.proofs.RunCallLemmas.{length-blocks}
use Rattle.nm_store.specs.Inside.{state_of}
use Rattle.nm_store.proofs.store.Store.keep_read.Goals as goal

pub returns-then-quiet-clause-kept : goal.returns-then-quiet-clause-kept
returns-then-quiet-clause-kept g c =
    let old = state_of c.self.inside in
    let bytes = c.args.bytes.now in
    let last = last_block c.args.block (blocks_in bytes) in
    let quiet : is_quiet last old ≡ true = subst (λ (s : StripeState _). is_quiet last s ≡ true) (sym c.self.view_is) (sym c.requires.quiet ∙ c.if-quiet.true) in
    let turn : c.next_turn-self-inside.result ≡ turn_after last old = c.next_turn-self-inside.ensures.next ∙ ap (λ (b : Bool). cond {A = ℕ} b (next_turn old.turn) old.turn) (sym quiet) in
    let entries : c.keep_blocks.new.kept.last ≡ kept_with (read_entries (next_number old) c.args.block (blocks_of bytes)) old.kept = c.keep_blocks.ensures.last ∙ ap (λ (n : ℕ). kept_with (read_entries (old.first + n) c.args.block (blocks_of bytes)) old.kept) c.total.ensures.value in
    let total : c.keep_blocks.new.kept.total ≡ old.total + length (blocks_of bytes) = c.keep_blocks.ensures.total ∙ ap (λ (n : ℕ). old.total + n) (sym (length-blocks bytes)) in
    rw (turn, entries, total, ← c.self.view_is) refl

pub returns-else-quiet-clause-kept : goal.returns-else-quiet-clause-kept
returns-else-quiet-clause-kept g c =
    let old = state_of c.self.inside in
    let bytes = c.args.bytes.now in
    let last = last_block c.args.block (blocks_in bytes) in
    let busy : is_quiet last old ≡ false = subst (λ (s : StripeState _). is_quiet last s ≡ false) (sym c.self.view_is) (sym c.requires.quiet ∙ c.if-quiet.false) in
    let turn : c.self.inside.turn ≡ turn_after last old = ap (λ (b : Bool). cond {A = ℕ} b (next_turn old.turn) old.turn) (sym busy) in
    let entries : c.keep_blocks.new.kept.last ≡ kept_with (read_entries (next_number old) c.args.block (blocks_of bytes)) old.kept = c.keep_blocks.ensures.last ∙ ap (λ (n : ℕ). kept_with (read_entries (old.first + n) c.args.block (blocks_of bytes)) old.kept) c.total.ensures.value in
    let total : c.keep_blocks.new.kept.total ≡ old.total + length (blocks_of bytes) = c.keep_blocks.ensures.total ∙ ap (λ (n : ℕ). old.total + n) (sym (length-blocks bytes)) in
    rw (entries, total, ← c.self.view_is) (ap (λ (n : ℕ). record old { turn = n; kept = kept_with (read_entries (next_number old) c.args.block (blocks_of bytes)) old.kept; total = old.total + length (blocks_of bytes) }) turn)
