use Rattle.std.proofs.Common.{◌≤◌, ◌^◌, vec_len}
use Rattle.std.specs.Io.KnownBytes.{Consumes}
use Rattle.nm_script_lib.proofs.streams.read_all.Given as goal

abbrev pub invariant-loop : goal.invariant-loop
invariant-loop g l = record {
  taken : Consumes (g.R.Read.remaining l.initial.input) (g.R.Read.remaining l.input) l.text.items;
  short : vec_len l.text ≤ 2 ^ 24;
}
