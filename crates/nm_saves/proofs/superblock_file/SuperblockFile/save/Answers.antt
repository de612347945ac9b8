-- The slot that is written is not the one with the file's superblock.
use Rattle.std.proofs.Common.{◌≡◌, ◌<◌, Bool, true, false, is_ok, sym, ap, ◌∙◌, subst, arith}
use Rattle.nm_saves.specs.FileState.{FileState, IsSound, SavesFile, saves_second, state_of}
use Rattle.nm_saves.specs.SlotFile.{Held, WritesDurably}
use Rattle.nm_superblock.specs.Layout.{slot_bytes}
use Rattle.nm_saves.specs.declared.superblock_file.SuperblockFile.TheInside.{Inside}
use Rattle.nm_saves.proofs.Written.{err-not_ok, failed_in, not-refused, saves-failed, saves-file, saves-written, sound-written, written_in}
use Rattle.nm_saves.proofs.superblock_file.SuperblockFile.save.Goals as goal
use Rattle.nm_saves.proofs.superblock_file.SuperblockFile.save.Goals.{then-second, else-second}

pub returns-in_err-write_superblock : goal.returns-in_err-write_superblock
returns-in_err-write_superblock g c =
    let honest = g.F.SlotFile.honest in
    let old : FileState = state_of (g.F.SlotFile.held c.self.inside.file) c.self.inside.first c.self.inside.second c.self.inside.highest c.self.inside.failed c.self.inside.damaged in
    let held : Held = g.F.SlotFile.held c.write_superblock.new.file in
    let s = c.args.superblock.now in
    let more : c.self.inside.highest < s.generation = omega arith in
    let writes : WritesDurably honest false (saves_second old) (slot_bytes s) old.held held =
    subst (λ (b : Bool). WritesDurably honest false b (slot_bytes s) old.held held) c.is_second_written-second.ensures c.in_err-write_superblock.ensures in
    let saves : SavesFile honest false s old (failed_in s held old) =
    saves-file honest false s old (failed_in s held old) (not-refused s old c.if-self.false more c.all_fit.ensures.bounds)
    (saves-failed honest s held old c.all_fit.ensures c.self.invariant c.if-self.false more writes) in
    let seen : SavesFile honest false s c.args.self.now (failed_in s held old) =
    subst (λ (f : FileState). SavesFile honest false s f (failed_in s held old)) c.self.view_is saves in
    let err : is_ok c.from_residual.result ≡ false = err-not_ok c.from_residual.result c.from_residual.ensures.0 in
    subst (λ (b : Bool). SavesFile honest b s c.args.self.now (failed_in s held old)) (sym err) seen

pub invariant_of-self-2 : goal.invariant_of-self-2
invariant_of-self-2 g c =
    let honest = g.F.SlotFile.honest in
    let old : FileState = state_of (g.F.SlotFile.held c.self.inside.file) c.self.inside.first c.self.inside.second c.self.inside.highest c.self.inside.failed c.self.inside.damaged in
    let held : Held = g.F.SlotFile.held c.write_superblock.new.file in
    let s = c.args.superblock.now in
    let second = c.is_second_written-second.result in
    let more : c.self.inside.highest < s.generation = omega arith in
    let inside = c.if-second.self-inside in
    let sound : IsSound honest (written_in second s held old) =
    sound-written honest second s held old c.all_fit.ensures c.self.invariant c.if-self.false more c.in_ok-write_superblock.ensures in
    let state : FileState = state_of (g.F.SlotFile.held inside.file) inside.first inside.second inside.highest false inside.damaged in
    let is : state ≡ written_in second s held old =
    elim c.if-second.branch [
      | then-second w ↦ ap (λ (i : Inside g.row.F.Denot). state_of (g.F.SlotFile.held i.file) i.first i.second i.highest false i.damaged) w.self-inside-is
          ∙ ap (λ (b : Bool). written_in b s held old) (sym w.if-second.true)
      | else-second w ↦ ap (λ (i : Inside g.row.F.Denot). state_of (g.F.SlotFile.held i.file) i.first i.second i.highest false i.damaged) w.self-inside-is
          ∙ ap (λ (b : Bool). written_in b s held old) (sym w.if-second.false)
    ] in
    subst (λ (f : FileState). IsSound honest f) (sym is) sound

pub returns : goal.returns
returns g c =
    let honest = g.F.SlotFile.honest in
    let old : FileState = state_of (g.F.SlotFile.held c.self.inside.file) c.self.inside.first c.self.inside.second c.self.inside.highest c.self.inside.failed c.self.inside.damaged in
    let held : Held = g.F.SlotFile.held c.write_superblock.new.file in
    let s = c.args.superblock.now in
    let second = c.is_second_written-second.result in
    let more : c.self.inside.highest < s.generation = omega arith in
    let inside = c.if-second.self-inside in
    let state : FileState = state_of (g.F.SlotFile.held inside.file) inside.first inside.second inside.highest false inside.damaged in
    let writes : WritesDurably honest true (saves_second old) (slot_bytes s) old.held held =
    subst (λ (b : Bool). WritesDurably honest true b (slot_bytes s) old.held held) c.is_second_written-second.ensures c.in_ok-write_superblock.ensures in
    let saves : SavesFile honest true s old (written_in (saves_second old) s held old) =
    saves-file honest true s old (written_in (saves_second old) s held old) (not-refused s old c.if-self.false more c.all_fit.ensures.bounds)
    (saves-written honest s held old c.all_fit.ensures c.self.invariant c.if-self.false more writes) in
    let is : state ≡ written_in second s held old =
    elim c.if-second.branch [
      | then-second w ↦ ap (λ (i : Inside g.row.F.Denot). state_of (g.F.SlotFile.held i.file) i.first i.second i.highest false i.damaged) w.self-inside-is
          ∙ ap (λ (b : Bool). written_in b s held old) (sym w.if-second.true)
      | else-second w ↦ ap (λ (i : Inside g.row.F.Denot). state_of (g.F.SlotFile.held i.file) i.first i.second i.highest false i.damaged) w.self-inside-is
          ∙ ap (λ (b : Bool). written_in b s held old) (sym w.if-second.false)
    ] in
    let at : state ≡ written_in (saves_second old) s held old = is ∙ ap (λ (b : Bool). written_in b s held old) c.is_second_written-second.ensures in
    let done : SavesFile honest true s old state = subst (λ (f : FileState). SavesFile honest true s old f) (sym at) saves in
    subst (λ (f : FileState). SavesFile honest true s f state) c.self.view_is done
