-- A reply that goes out in several pieces is one reply, and each number has its answer.
use Rattle.std.proofs.Common.{◌≡◌, ◌≢◌, ℕ, ◌+◌, Bool, false, eqb, List, ◌++◌, length, refl, sym, ap, ◌∙◌, arith, length-append, ⊎_elim}
use Rattle.std.proofs.lemmas.List.{append_assoc}
use Rattle.std.proofs.lemmas.Bool.Decides.{eqb_tells}
use Rattle.nm_wire.specs.Number.{be}
use Rattle.nm_wire.specs.Layout.{option_reply_bytes}
use Rattle.nm_wire.specs.Export.{size_of, flags_of}
use Rattle.nm_wire.specs.InfoKind.{info_number}
use Rattle.nm_wire.specs.Sizes.{min_block, preferred_block, max_payload}
use Rattle.nm_wire.specs.ReplyKind.{reply_number}
use Rattle.nm_wire.specs.declared.info_kind.InfoKind.TheVariants as info
use Rattle.nm_wire.specs.OptionKind.{option_number}
use Rattle.nm_wire.specs.declared.export.Export.{Export}
use Rattle.nm_wire.specs.declared.option_kind.OptionKind.{OptionKind}
use Rattle.nm_wire.specs.declared.option_kind.OptionKind.TheVariants as option
use Rattle.nm_wire.specs.declared.option_reply.OptionReply.{OptionReply}
use Rattle.nm_wire.specs.declared.reply_kind.ReplyKind.{ReplyKind}
use Rattle.nm_wire.specs.declared.reply_kind.ReplyKind.TheVariants as kind
use Rattle.nm_haggle.specs.ClientOption.{ClientOption}
use Rattle.nm_haggle.specs.Answer.{reply, refusal, answer_to, export_information, block_sizes}
use Rattle.nm_wire.proofs.Numbers.{length-be}

-- the header of a reply with n bytes of data
abbrev pub head_for : ℕ → ReplyKind → ℕ → OptionReply
head_for number kind n = record { option = number; kind = reply_number kind; length = n }

-- a header for so many bytes, and that many bytes
pub reply_from : (number : ℕ) (kind : ReplyKind) (n : ℕ) (out payload : List ℕ) → length payload ≡ n
    → (out ++ option_reply_bytes (head_for number kind n)) ++ payload ≡ out ++ reply number kind payload
reply_from number kind n out payload l =
    append_assoc out (option_reply_bytes (head_for number kind n)) payload
    ∙ ap (λ m. out ++ (option_reply_bytes (head_for number kind m) ++ payload)) (sym l)

pub length-export_information : (export : Export) → length (export_information export) ≡ 12
length-export_information export =
    simp length-append (omega (arith, length-be 2 (info_number info.Export), length-be 8 (size_of export), length-be 2 (flags_of export)))

pub length-block_sizes : length block_sizes ≡ 14
length-block_sizes =
    simp length-append (omega (arith, length-be 2 (info_number info.BlockSize), length-be 4 min_block, length-be 4 preferred_block, length-be 4 max_payload))

pub length-name : (name : List ℕ) → length (be 4 (length name) ++ name) ≡ 4 + length name
length-name name = length-append (be 4 (length name)) name ∙ ap (λ n. n + length name) (length-be 4 (length name))

not_number : (m n : ℕ) → m ≢ n → eqb n m ≡ false
not_number m n h = ⊎_elim (λ t. absurd (h (sym t.1))) (λ t. t.0) (eqb_tells n m)

-- an option that is not served is answered as such
pub answer_to_others : (export : Export) (nz : Bool) (o : ClientOption) → ((k : OptionKind) → option_number k ≢ o.number)
    → answer_to export nz o ≡ refusal o.number kind.Unsupported
answer_to_others export nz o h =
    let a = not_number 1 o.number (h option.ExportName) in
    let b = not_number 2 o.number (h option.Abort) in
    let d = not_number 3 o.number (h option.List) in
    let e = not_number 6 o.number (h option.Info) in
    let f = not_number 7 o.number (h option.Go) in
    rw (a, b, d, e, f) refl
