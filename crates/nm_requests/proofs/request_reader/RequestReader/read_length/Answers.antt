-- The unread bytes are the buffer's, and none where there is no buffer.
use Rattle.std.proofs.Common.{◌≡◌, ℕ, List, [], sym, subst, ap, ◌∙◌}
use Rattle.nm_requests.specs.ReaderFields.{unread_bytes}
use Rattle.nm_requests.specs.Reader.{Unread}
use Rattle.nm_requests.specs.Stream.{StartsWith}
use Rattle.nm_requests.proofs.FirstRequest.{nothing_starts}
use Rattle.nm_requests.proofs.request_reader.RequestReader.read_length.Goals as goal

pub returns-in-Some-clause-first : goal.returns-in-Some-clause-first
returns-in-Some-clause-first c message after starts =
    let rest : c.args.self.now.rest ≡ c.in-Some.buffer.items =
    ap (λ (u : Unread). u.rest) (sym c.self.view_is) ∙ ap unread_bytes c.in-Some.is in
    c.first_read_len.ensures.first c.args.self.now.count message after
    (subst (λ (bytes : List ℕ). StartsWith c.args.self.now.count bytes message after) rest starts)

pub returns-in-None-clause-first : goal.returns-in-None-clause-first
returns-in-None-clause-first c message after starts =
    let rest : c.args.self.now.rest ≡ [] =
    ap (λ (u : Unread). u.rest) (sym c.self.view_is) ∙ ap unread_bytes c.in-None.is in
    absurd (nothing_starts c.args.self.now.count message after
    (subst (λ (bytes : List ℕ). StartsWith c.args.self.now.count bytes message after) rest starts))
