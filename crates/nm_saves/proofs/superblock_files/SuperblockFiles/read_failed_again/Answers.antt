-- The files and their errors are those that were read again, and the rest stays.
use Rattle.std.proofs.Common.{◌≡◌, length, List, Option, refl, sym, ◌∙◌, subst, arith}
use Rattle.std.proofs.lemmas.List.{with_items_is}
use Rattle.nm_saves.specs.FileState.{FileState}
use Rattle.nm_saves.specs.Files.{AreUpTo, IsLeastUpTo}
use Rattle.nm_saves.specs.Rereading.{RereadsFailed, RereadsTo, TellsTo}
use Rattle.nm_saves.specs.SavingAll.{FilesState}
use Rattle.nm_saves.proofs.superblock_files.SuperblockFiles.read_failed_again.Goals as goal

pub returns : goal.returns
returns g c =
    let honest = g.F.SlotFile.honest in
    let old : FilesState = record { files = c.self.inside.files.items; image = c.self.inside.image; highest = c.self.inside.highest; errors = c.self.inside.errors } in
    let new : FilesState = record { files = c.read_failed.new.files; image = c.self.inside.image; highest = c.highest_of-self-inside.result; errors = c.read_failed.new.errors } in
    let reads : RereadsTo 8 honest old.files new.files =
    subst (λ (fs : List (Option FileState)). RereadsTo 8 honest fs new.files) c.deref_mut.ensures.value c.read_failed.ensures.files in
    let tells : TellsTo 8 old.files new.files old.errors new.errors =
    subst (λ (fs : List (Option FileState)). TellsTo 8 fs new.files old.errors new.errors) c.deref_mut.ensures.value c.read_failed.ensures.errors in
    let long : length new.files ≡ c.self.inside.files.len = omega arith in
    let back = with_items_is c.self.inside.files new.files long in
    let above : AreUpTo 8 new.highest new.files =
    subst (λ (fs : List (Option FileState)). AreUpTo 8 new.highest fs) (c.deref.ensures.value ∙ back) c.highest_of-self-inside.ensures.above in
    let least : IsLeastUpTo 8 old.highest new.highest new.files =
    subst (λ (fs : List (Option FileState)). IsLeastUpTo 8 old.highest new.highest fs) (c.deref.ensures.value ∙ back) c.highest_of-self-inside.ensures.least in
    subst (λ (fs : List (Option FileState)). RereadsFailed honest c.args.self.now (record new { files = fs })) (sym back)
    (subst (λ (f : FilesState). RereadsFailed honest f new) c.self.view_is record {
      read = reads.read;
      count = omega arith;
      errors = tells;
      image = refl;
      highest = c.highest_of-self-inside.ensures.own;
      above = above;
      least = least;
    })
