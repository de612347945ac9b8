-- What the reading thread sends is what it read, up to the end that it tells last.
use Rattle.std.proofs.Common.{◌≡◌, ℕ, Bool, true, false, List, [], ◌∷◌, ◌++◌, Option, refl, sym, ap, ◌∙◌, subst, append-nil}
use Rattle.std.specs.Io.KnownBytes.{Consumes}
use Rattle.std.proofs.KnownBytes.{Consumes-trans, Consumes-nil}
use Rattle.nm_mailbox.specs.declared.message.Piece.{Piece}
use Rattle.nm_mailbox.specs.declared.message.Piece.TheVariants.{Bytes, Ended, Failed}
use Rattle.nm_workers.specs.declared.reader.Reader.{Reader}
use Rattle.nm_workers.specs.Pieces.{bytes_of}
use Rattle.nm_workers.specs.Reading.{Gives, AreBytes, ReadsOn, HasRead, Reads, ReadsFurther, brings_bytes}
use Rattle.nm_workers.proofs.Steps.{bytes-append}

bytes_on : (pieces : List Piece) (more : List Piece) → AreBytes pieces → AreBytes more → AreBytes (pieces ++ more)
bytes_on [] more are then = then
bytes_on (Bytes bytes ∷ pieces) more are then = bytes_on pieces more are then
bytes_on (Ended ∷ pieces) more are then = absurd are
bytes_on (Failed ∷ pieces) more are then = absurd are

-- pieces of bytes tell no end
no_end : (pieces before after : List Piece) → AreBytes pieces → pieces ≡ before ++ Ended ∷ after → ⊥
no_end [] [] after are same = cc
no_end [] (b ∷ before) after are same = cc
no_end (Bytes bytes ∷ pieces) [] after are same = cc
no_end (Bytes bytes ∷ pieces) (b ∷ before) after are same =
    let rest : pieces ≡ before ++ Ended ∷ after = cc in no_end pieces before after are rest
no_end (Ended ∷ pieces) before after are same = absurd are
no_end (Failed ∷ pieces) before after are same = absurd are

no_end_failed : (pieces before after : List Piece) → AreBytes pieces
    → pieces ++ Failed ∷ [] ≡ before ++ Ended ∷ after → ⊥
no_end_failed [] [] after are same = cc
no_end_failed [] (b ∷ []) after are same = cc
no_end_failed [] (b ∷ c ∷ before) after are same = cc
no_end_failed (Bytes bytes ∷ pieces) [] after are same = cc
no_end_failed (Bytes bytes ∷ pieces) (b ∷ before) after are same =
    let rest : pieces ++ Failed ∷ [] ≡ before ++ Ended ∷ after = cc in no_end_failed pieces before after are rest
no_end_failed (Ended ∷ pieces) before after are same = absurd are
no_end_failed (Failed ∷ pieces) before after are same = absurd are

-- the end that is told after them is the last piece
last_end : (pieces before after : List Piece) → AreBytes pieces
    → pieces ++ Ended ∷ [] ≡ before ++ Ended ∷ after → after ≡ []
last_end [] [] after are same = cc
last_end [] (b ∷ []) after are same = absurd (cc)
last_end [] (b ∷ c ∷ before) after are same = absurd (cc)
last_end (Bytes bytes ∷ pieces) [] after are same = absurd (cc)
last_end (Bytes bytes ∷ pieces) (b ∷ before) after are same =
    let rest : pieces ++ Ended ∷ [] ≡ before ++ Ended ∷ after = cc in last_end pieces before after are rest
last_end (Ended ∷ pieces) before after are same = absurd are
last_end (Failed ∷ pieces) before after are same = absurd are

module _ (input old new : Option (List ℕ)) (before : List Piece) (reads : ReadsOn input old before) where
  -- a piece that was read and sent
  pub sent_goes : (piece : Piece) → Gives piece old new → Reads (brings_bytes piece) input new (before ++ piece ∷ [])
  sent_goes (Bytes bytes) gives = record {
    are_bytes = bytes_on before (Bytes bytes ∷ []) reads.are_bytes tt;
    consumes = subst (Consumes input new)
        (sym (bytes-append before (Bytes bytes ∷ []) ∙ ap (λ (xs : List ℕ). bytes_of before ++ xs) (append-nil bytes.items)))
        (Consumes-trans input old new (bytes_of before) bytes.items reads.consumes gives);
  }
  sent_goes Ended gives = record {
    unsent = [];
    consumes = subst (Consumes input new)
        (sym (append-nil (bytes_of (before ++ Ended ∷ [])) ∙ bytes-append before (Ended ∷ [])))
        (Consumes-trans input old new (bytes_of before) [] reads.consumes gives.0);
    at_end = λ front after same. (gives.1, last_end before front after reads.are_bytes same, refl);
  }
  sent_goes Failed gives = record {
    unsent = [];
    consumes = subst (Consumes input new)
        (sym (append-nil (bytes_of (before ++ Failed ∷ [])) ∙ bytes-append before (Failed ∷ [])))
        (Consumes-trans input old new (bytes_of before) [] reads.consumes gives);
    at_end = λ front after same. absurd (no_end_failed before front after reads.are_bytes same);
  }

  -- a piece that was read and not sent
  pub unsent_ends : (piece : Piece) → Gives piece old new → HasRead input new before
  unsent_ends (Bytes bytes) gives = record {
    unsent = bytes.items;
    consumes = Consumes-trans input old new (bytes_of before) bytes.items reads.consumes gives;
    at_end = λ front after same. absurd (no_end before front after reads.are_bytes same);
  }
  unsent_ends Ended gives = record {
    unsent = [];
    consumes = Consumes-trans input old new (bytes_of before) [] reads.consumes gives.0;
    at_end = λ front after same. absurd (no_end before front after reads.are_bytes same);
  }
  unsent_ends Failed gives = record {
    unsent = [];
    consumes = Consumes-trans input old new (bytes_of before) [] reads.consumes gives;
    at_end = λ front after same. absurd (no_end before front after reads.are_bytes same);
  }

-- no more is read
pub stops_reading : (input unread : Option (List ℕ)) (pieces : List Piece) → ReadsOn input unread pieces
    → HasRead input unread pieces
stops_reading input unread pieces reads = record {
  unsent = [];
  consumes = subst (Consumes input unread) (sym (append-nil (bytes_of pieces))) reads.consumes;
  at_end = λ front after same. absurd (no_end pieces front after reads.are_bytes same);
}

-- nothing was read yet
pub reads_first : (input : Option (List ℕ)) (pieces : List Piece) (goes : Bool) → pieces ≡ [] → goes ≡ true
    → Reads goes input input pieces
reads_first input pieces goes none is = rw (none, is) record { are_bytes = tt; consumes = Consumes-nil input }

-- whether it would go on or not, that is what was read
pub has_read : (goes : Bool) (input unread : Option (List ℕ)) (pieces : List Piece) → Reads goes input unread pieces
    → HasRead input unread pieces
has_read true input unread pieces reads = stops_reading input unread pieces reads
has_read false input unread pieces read = read

module _ (bytes old new : Option (List ℕ)) (before after : List Piece) (result : Bool)
    (reads : ReadsOn bytes old before) where
  -- the same, by what was found of the sending
  pub sent_at : (piece : Piece) → Gives piece old new → result ≡ brings_bytes piece → after ≡ before ++ piece ∷ []
      → Reads result bytes new after
  sent_at piece gives is sent =
      rw (is, sent) (sent_goes bytes old new before reads piece gives)

  pub unsent_at : (piece : Piece) → Gives piece old new → result ≡ false → after ≡ before → Reads result bytes new after
  unsent_at piece gives is same = rw (is, same) (unsent_ends bytes old new before reads piece gives)

-- what is read by one and then by another
pub more_on : {I M : Type 0} (remaining : I → Option (List ℕ)) (a b c : Reader I M)
    → ReadsFurther remaining a b → ReadsFurther remaining b c → ReadsFurther remaining a c
more_on remaining a b c first second =
    (λ input goes. second.0 input (first.0 input goes), second.1 ∙ first.1)
