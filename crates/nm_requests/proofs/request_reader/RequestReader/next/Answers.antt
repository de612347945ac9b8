-- With no buffer nothing is unread.
use Rattle.std.proofs.Common.{◌≡◌, [], refl, arith, None}
use Rattle.nm_requests.specs.declared.request_reader.RequestReader.TheInside.{Inside}
use Rattle.nm_requests.specs.ReaderFields.{unread_bytes, unread_of}
use Rattle.nm_requests.specs.Reader.{Starves}
use Rattle.nm_requests.proofs.FirstRequest.{unfinished_from_short}
use Rattle.nm_requests.proofs.request_reader.RequestReader.next.Goals as goal

starves_without_buffer : (reader : Inside) → reader.fault ≡ None → reader.buffer ≡ None
    → Starves (unread_of reader) (unread_of reader)
starves_without_buffer reader going none = record {
  was_open = going;
  unfinished = let empty : unread_bytes reader.buffer ≡ [] =
      rw none refl in rw empty (unfinished_from_short reader.count [] (omega arith));
  unchanged = record { rest = refl; count = refl; fault = refl };
}

pub returns-in_default-buffer-clause-none : goal.returns-in_default-buffer-clause-none
returns-in_default-buffer-clause-none c =
    rw (← c.self.view_is) (starves_without_buffer c.self.inside c.in_default.is
    c.in_default-buffer.is)
