-- The unread bytes are the buffer's, and none where there is no buffer.
use Rattle.std.proofs.Common.{◌≡◌, ◌≤◌, ℕ, List, [], ◌++◌, length, sym, subst, ap, ◌∙◌, arith}
use Rattle.nm_requests.specs.ReaderFields.{unread_bytes}
use Rattle.nm_requests.specs.Message.{Message}
use Rattle.nm_requests.specs.Reader.{Unread}
use Rattle.nm_requests.specs.Stream.{StartsWith}
use Rattle.nm_requests.proofs.request_reader.RequestReader.missing.Goals as goal

pub returns-in-Some-clause-missing : goal.returns-in-Some-clause-missing
returns-in-Some-clause-missing c message more long starts =
    let rest : c.args.self.now.rest ≡ c.in-Some.buffer.items =
    ap (λ (u : Unread). u.rest) (sym c.self.view_is) ∙ ap unread_bytes c.in-Some.is in
    c.missing_len.ensures.missing message more
    (subst (λ (bytes : List ℕ). 28 ≤ length bytes) rest long)
    (subst (λ (bytes : List ℕ). StartsWith 0 (bytes ++ more) message []) rest starts)

pub returns-in-None-clause-missing : goal.returns-in-None-clause-missing
returns-in-None-clause-missing c message more long starts =
    let rest : c.args.self.now.rest ≡ [] =
    ap (λ (u : Unread). u.rest) (sym c.self.view_is) ∙ ap unread_bytes c.in-None.is in
    absurd (omega (arith, subst (λ (bytes : List ℕ). 28 ≤ length bytes) rest long))
