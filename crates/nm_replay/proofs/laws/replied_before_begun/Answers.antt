-- The first operation's entry stands before its reply, the other's after it, and numbers rise.
use Rattle.std.proofs.Common.{◌≡◌, List, ◌∷◌, ◌++◌, sym, ◌∙◌, subst, append_assoc}
use Rattle.nm_replay.specs.declared.entry.Entry.{Entry}
use Rattle.nm_replay.specs.Array.{put_of}
use Rattle.nm_replay.specs.Events.{Event, BeginsRead, BeginsWrite, Lands, RepliesRead, RepliesWrite, entry_of_read, entry_of_write}
use Rattle.nm_replay.specs.Explained.{Explained}
use Rattle.nm_replay.proofs.WriteStages.{write-effect}
use Rattle.nm_replay.proofs.ReadStages.{read-effect}
use Rattle.nm_replay.proofs.Ordering.{lands-after}
use Rattle.nm_replay.proofs.laws.replied_before_begun.Goals as goal

pub returns-clause-write_write : goal.returns-clause-write_write
returns-clause-write_write c ticket number other above block put span bytes earlier between following later x =
    let reply : Event = RepliesWrite ticket number in
    let begin : Event = BeginsWrite other block put in
    let high : Entry = entry_of_write above other block span bytes in
    let rest : List Event = between ++ begin ∷ (following ++ Lands high ∷ later) in
    let effect = write-effect ticket number (x.from.writes ticket) (x.to.writes ticket) earlier rest x.not_begun (x.explained.each_write ticket) in
    let split : earlier ≡ (effect.before ++ BeginsWrite ticket effect.block (put_of effect.span effect.bytes) ∷ effect.between) ++ Lands (entry_of_write number ticket effect.block effect.span effect.bytes) ∷ effect.following = effect.split ∙ sym (append_assoc effect.before (BeginsWrite ticket effect.block (put_of effect.span effect.bytes) ∷ effect.between) (Lands (entry_of_write number ticket effect.block effect.span effect.bytes) ∷ effect.following)) in
    let moved : rest ≡ (between ++ begin ∷ following) ++ Lands high ∷ later = sym (append_assoc between (begin ∷ following) (Lands high ∷ later)) in
    let explained = subst (λ es. Explained x.from x.to (earlier ++ reply ∷ es)) moved x.explained in
    lands-after x.from x.to earlier (effect.before ++ BeginsWrite ticket effect.block (put_of effect.span effect.bytes) ∷ effect.between) effect.following (reply ∷ (between ++ begin ∷ following)) later (entry_of_write number ticket effect.block effect.span effect.bytes) high split explained

pub returns-clause-write_read : goal.returns-clause-write_read
returns-clause-write_read c ticket number above block bytes earlier between following later x =
    let reply : Event = RepliesWrite ticket number in
    let begin : Event = BeginsRead above block in
    let high : Entry = entry_of_read above block bytes in
    let rest : List Event = between ++ begin ∷ (following ++ Lands high ∷ later) in
    let effect = write-effect ticket number (x.from.writes ticket) (x.to.writes ticket) earlier rest x.not_begun (x.explained.each_write ticket) in
    let split : earlier ≡ (effect.before ++ BeginsWrite ticket effect.block (put_of effect.span effect.bytes) ∷ effect.between) ++ Lands (entry_of_write number ticket effect.block effect.span effect.bytes) ∷ effect.following = effect.split ∙ sym (append_assoc effect.before (BeginsWrite ticket effect.block (put_of effect.span effect.bytes) ∷ effect.between) (Lands (entry_of_write number ticket effect.block effect.span effect.bytes) ∷ effect.following)) in
    let moved : rest ≡ (between ++ begin ∷ following) ++ Lands high ∷ later = sym (append_assoc between (begin ∷ following) (Lands high ∷ later)) in
    let explained = subst (λ es. Explained x.from x.to (earlier ++ reply ∷ es)) moved x.explained in
    lands-after x.from x.to earlier (effect.before ++ BeginsWrite ticket effect.block (put_of effect.span effect.bytes) ∷ effect.between) effect.following (reply ∷ (between ++ begin ∷ following)) later (entry_of_write number ticket effect.block effect.span effect.bytes) high split explained

pub returns-clause-read_write : goal.returns-clause-read_write
returns-clause-read_write c number other above block found bytes put span earlier between following later x =
    let reply : Event = RepliesRead number found in
    let begin : Event = BeginsWrite other block put in
    let high : Entry = entry_of_write above other block span bytes in
    let rest : List Event = between ++ begin ∷ (following ++ Lands high ∷ later) in
    let effect = read-effect number found (x.from.reads number) (x.to.reads number) earlier rest x.not_begun (x.explained.each_read number) in
    let split : earlier ≡ (effect.before ++ BeginsRead number effect.block ∷ effect.between) ++ Lands (entry_of_read number effect.block found) ∷ effect.following = effect.split ∙ sym (append_assoc effect.before (BeginsRead number effect.block ∷ effect.between) (Lands (entry_of_read number effect.block found) ∷ effect.following)) in
    let moved : rest ≡ (between ++ begin ∷ following) ++ Lands high ∷ later = sym (append_assoc between (begin ∷ following) (Lands high ∷ later)) in
    let explained = subst (λ es. Explained x.from x.to (earlier ++ reply ∷ es)) moved x.explained in
    lands-after x.from x.to earlier (effect.before ++ BeginsRead number effect.block ∷ effect.between) effect.following (reply ∷ (between ++ begin ∷ following)) later (entry_of_read number effect.block found) high split explained

pub returns-clause-read_read : goal.returns-clause-read_read
returns-clause-read_read c number above block found bytes earlier between following later x =
    let reply : Event = RepliesRead number found in
    let begin : Event = BeginsRead above block in
    let high : Entry = entry_of_read above block bytes in
    let rest : List Event = between ++ begin ∷ (following ++ Lands high ∷ later) in
    let effect = read-effect number found (x.from.reads number) (x.to.reads number) earlier rest x.not_begun (x.explained.each_read number) in
    let split : earlier ≡ (effect.before ++ BeginsRead number effect.block ∷ effect.between) ++ Lands (entry_of_read number effect.block found) ∷ effect.following = effect.split ∙ sym (append_assoc effect.before (BeginsRead number effect.block ∷ effect.between) (Lands (entry_of_read number effect.block found) ∷ effect.following)) in
    let moved : rest ≡ (between ++ begin ∷ following) ++ Lands high ∷ later = sym (append_assoc between (begin ∷ following) (Lands high ∷ later)) in
    let explained = subst (λ es. Explained x.from x.to (earlier ++ reply ∷ es)) moved x.explained in
    lands-after x.from x.to earlier (effect.before ++ BeginsRead number effect.block ∷ effect.between) effect.following (reply ∷ (between ++ begin ∷ following)) later (entry_of_read number effect.block found) high split explained
