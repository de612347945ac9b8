-- Whole blocks have an entry each, cut out of the run's bytes.
use Rattle.std.proofs.Common.{◌≡◌, ℕ, ◌/◌, List, length, sym, ap, ◌∙◌, arith}
use Rattle.nm_replay.specs.declared.entry.Entry.{Entry}
use Rattle.nm_replay.specs.Array.{Entire}
use Rattle.nm_replay.specs.Kept.{kept_with}
use Rattle.nm_fanout.specs.RecordData.{bytes_of, span_of}
use Rattle.nm_fanout.specs.Runs.{entries_from}
use Rattle.nm_store.proofs.RunEntryLemmas.{entries-whole, no-part}
use Rattle.nm_store.proofs.landing.keep_entries.Goals as goal

pub returns : goal.returns
returns c =
    let r = c.args.run.now in
    let old = c.args.kept.now.last in
    let whole : span_of r.data ≡ Entire = no-part r.data c.in_default.not-Merged in
    let bytes : c.bytes-2.result.now ≡ bytes_of r.data = c.bytes-2.ensures.bytes in
    record {
      last = c.keep_run.ensures.last
          ∙ ap (λ (bs : List ℕ). kept_with (entries_from (length bs / 512) c.args.number r.ticket r.block bs) old) bytes
          ∙ ap (λ (es : List Entry). kept_with es old) (sym (entries-whole c.args.number r whole));
      total = omega (
        arith,
        c.keep_run.ensures.total,
        ap (λ (bs : List ℕ). length bs) bytes,
        c.requires.run.filled.whole,
      );
    }
