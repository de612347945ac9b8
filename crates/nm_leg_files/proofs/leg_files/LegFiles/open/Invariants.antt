-- So far there is a leg for each of the first names; the first that is here is the one to go by.
use Rattle.std.proofs.Common.{◌≡◌, ◌≤◌, ◌^◌, map, take, IfSome, is_some, true, false}
use Rattle.std.specs.List.{list_all, list_any}
use Rattle.nm_leg_files.specs.Files.{name_of}
use Rattle.nm_leg_files.specs.Here.{is_here}
use Rattle.nm_leg_files.proofs.leg_files.LegFiles.open.Given as goal

abbrev pub invariant-loop-number : goal.invariant-loop-number
invariant-loop-number g l = record {
  named : map name_of l.files.items ≡ map (λ name. name.now) (take l.number l.names);
  some : is_some l.first ≡ list_any is_here l.files.items;
  all : l.rules.may_lack ≡ false → list_all is_here l.files.items ≡ true;
  most : IfSome l.first (λ own. own.blocks ≤ 2 ^ 31);
}
