-- The length of a reply without data.
use Rattle.std.proofs.Common.{◌≡◌, ℕ, ◌+◌, Bool, true, false, List, [], length, refl, ap, ◌∙◌, length-append}
use Rattle.std.specs.Prelude.{if◌then◌else◌, ◌==◌}
use Rattle.nm_wire.specs.Layout.{simple_reply_bytes}
use Rattle.nm_wire.proofs.Heads.{length-simple_reply_bytes}
use Rattle.nm_replies.specs.Answer.{frame_of}

length_none : (b : Bool) → length (let none : List ℕ = [] in if b then none else none) ≡ 0
length_none true = refl
length_none false = refl

pub length-header : (error cookie : ℕ)
    → length (frame_of (record { error = error; cookie = cookie; bytes = [] })) ≡ 16
length-header error cookie =
    length-append (simple_reply_bytes (record { error = error; cookie = cookie })) _
    ∙ ap (λ n. n + length (let none : List ℕ = [] in if error == 0 then none else none))
    (length-simple_reply_bytes (record { error = error; cookie = cookie }))
    ∙ ap (λ n. 16 + n) (length_none (error == 0))
