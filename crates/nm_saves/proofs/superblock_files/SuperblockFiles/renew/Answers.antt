-- The leg's file, id and identity are set, and nothing else.
use Rattle.std.proofs.Common.{rules, ap, ◌∙◌, None, Some}
use Rattle.std.proofs.lemmas.List.{get_or-set_other}
use Rattle.nm_saves.specs.Errors.{error_of}
use Rattle.nm_saves.specs.Files.{file_of}
use Rattle.nm_saves.specs.SavingAll.{FilesState}
use Rattle.nm_saves.proofs.superblock_files.SuperblockFiles.renew.Goals as goal

-- src/renewing.rt:31:5
pub returns : goal.returns
returns g c = record {
  has = search rules;
  error = search rules;
  count = search rules;
  others = λ other differs. (
    get_or-set_other c.self.inside.files.items c.args.leg other (Some c.args.file) None differs
        ∙ ap (λ (f : FilesState). file_of other f.files) c.self.view_is,
    get_or-set_other c.self.inside.errors c.args.leg other None None differs
        ∙ ap (λ (f : FilesState). error_of other f.errors) c.self.view_is,
  );
  image = search rules;
  identities = search rules;
  other_id = search rules;
  some_id = search rules;
  highest = search rules;
}
