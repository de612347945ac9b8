-- The first round is to the legs that are named, the second to the others.
use Rattle.std.proofs.Common.{◌≡◌, inr, ℕ, ◌+◌, length, List, Option, sym, ap, ◌∙◌, subst, refl, arith}
use Rattle.std.specs.Vec.{with_items}
use Rattle.std.proofs.lemmas.List.{with_items_is}
use Rattle.nm_superblock.specs.declared.superblock.Superblock.{Superblock}
use Rattle.nm_saves.specs.FileState.{FileState}
use Rattle.nm_saves.specs.Files.{SavesTo, round_of}
use Rattle.nm_saves.specs.SavingAll.{FilesState, IsDone, IsUndone, Request, next_of, request_of}
use Rattle.nm_saves.proofs.BothRounds.{is-done, not-so, undone}
use Rattle.nm_saves.proofs.superblock_files.SuperblockFiles.save.Goals as goal

pub returns-then-has_some-clause-undone : goal.returns-then-has_some-clause-undone
returns-then-has_some-clause-undone g c =
    let honest = g.F.SlotFile.honest in
    let r : Request = request_of c.args.sets.now c.args.marked.now c.args.clean c.args.changed.now c.args.out.now in
    let named = c.named_legs-named.result in
    let failed = c.save_to-failed.result in
    let old : FilesState = record { files = c.self.inside.files.items; image = c.self.inside.image; highest = c.self.inside.highest; errors = c.self.inside.errors } in
    let new : FilesState = record { files = c.save_to-failed.new.files; image = c.self.inside.image; highest = c.in-Some.generation; errors = c.save_to-failed.new.errors } in
    let number : c.in-Some.generation ≡ c.self.inside.highest + 1 = omega arith in
    let next : Superblock = record c.self.inside.image { generation = c.in-Some.generation; sets = c.args.sets.now; marked = c.args.marked.now; clean = c.args.clean; changed = c.args.changed.now } in
    let is : next ≡ next_of old r =
    ap (λ (n : ℕ). record c.self.inside.image { generation = n; sets = c.args.sets.now; marked = c.args.marked.now; clean = c.args.clean; changed = c.args.changed.now }) number in
    let saves : SavesTo 8 honest (round_of next named failed) old.files new.files =
    subst (λ (fs : List (Option FileState)). SavesTo 8 honest (round_of next named failed) fs new.files) c.deref_mut.ensures.value c.save_to-failed.ensures.files in
    let long : length new.files ≡ c.self.inside.files.len = omega arith in
    inr (subst (λ (fs : List (Option FileState)). IsUndone honest r failed c.args.self.now (record new { files = fs }))
    (sym (with_items_is c.self.inside.files new.files long))
    (subst (λ (f : FilesState). IsUndone honest r failed f new) c.self.view_is
    (undone honest r named failed old new next is c.named_legs-named.ensures saves c.save_to-failed.ensures.errors (c.has_some.ensures.0 c.if-has_some.true) number refl)))

pub returns-clause-done : goal.returns-clause-done
returns-clause-done g c =
    let honest = g.F.SlotFile.honest in
    let r : Request = request_of c.args.sets.now c.args.marked.now c.args.clean c.args.changed.now c.args.out.now in
    let named = c.named_legs-named.result in
    let failed = c.save_to-failed.result in
    let others = c.other_legs-others.result in
    let lacking = c.save_to-lacking.result in
    let old : FilesState = record { files = c.self.inside.files.items; image = c.self.inside.image; highest = c.self.inside.highest; errors = c.self.inside.errors } in
    let number : c.in-Some.generation ≡ c.self.inside.highest + 1 = omega arith in
    let next : Superblock = record c.self.inside.image { generation = c.in-Some.generation; sets = c.args.sets.now; marked = c.args.marked.now; clean = c.args.clean; changed = c.args.changed.now } in
    let is : next ≡ next_of old r =
    ap (λ (n : ℕ). record c.self.inside.image { generation = n; sets = c.args.sets.now; marked = c.args.marked.now; clean = c.args.clean; changed = c.args.changed.now }) number in
    let new : FilesState = record { files = c.save_to-lacking.new.files; image = record next { seen = c.seen_after-next.result }; highest = c.in-Some.generation; errors = c.save_to-lacking.new.errors } in
    let mid : List (Option FileState) = c.save_to-failed.new.files in
    let first : SavesTo 8 honest (round_of next named failed) old.files mid =
    subst (λ (fs : List (Option FileState)). SavesTo 8 honest (round_of next named failed) fs mid) c.deref_mut.ensures.value c.save_to-failed.ensures.files in
    let long : length mid ≡ c.self.inside.files.len = omega arith in
    let back = with_items_is c.self.inside.files mid long in
    let longer : length new.files ≡ c.self.inside.files.len = omega (arith, ap length back) in
    let second : SavesTo 8 honest (round_of next others lacking) mid new.files =
    subst (λ (fs : List (Option FileState)). SavesTo 8 honest (round_of next others lacking) fs new.files) (c.deref_mut-2.ensures.value ∙ back) c.save_to-lacking.ensures.files in
    subst (λ (fs : List (Option FileState)). IsDone honest r c.args.self.now (record new { files = fs }))
    (sym (with_items_is (with_items c.self.inside.files mid) new.files longer))
    (subst (λ (f : FilesState). IsDone honest r f new) c.self.view_is
    (is-done honest r named failed others lacking old new mid next c.save_to-failed.new.errors c.save_to-failed.ensures.errors c.save_to-lacking.ensures.errors is c.named_legs-named.ensures first
    (not-so c.has_some.result c.has_some.ensures.1 c.if-has_some.false)
    c.other_legs-others.ensures second c.seen_after-next.ensures number (ap (λ (s : Superblock). record s { seen = c.seen_after-next.result }) is)))
