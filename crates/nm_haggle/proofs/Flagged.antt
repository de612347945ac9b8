-- The client's flags before its options.
use Rattle.std.proofs.Common.{◌≡◌, ◌≢◌, ℕ, ◌+◌, ◌^◌, ◌<◌, ◌≤◌, false, List, [], ◌++◌, length, take, drop, refl, sym, ap, ◌∙◌, subst, arith, bit_and, ⊎_elim}
use Rattle.std.proofs.lemmas.List.{append-nil, take-append-drop, length-drop, drop-drop}
use Rattle.std.proofs.lemmas.Nat.{and_mask}
use Rattle.std.proofs.lemmas.Bool.{cases_lt}
use Rattle.nm_wire.specs.Number.{be}
use Rattle.nm_wire.specs.declared.export.Export.{Export}
use Rattle.nm_haggle.specs.declared.next.Next.TheVariants.{More, Close}
use Rattle.nm_haggle.specs.declared.phase.Phase.TheVariants as phase
use Rattle.nm_haggle.specs.declared.progress.Progress.{Progress}
use Rattle.nm_haggle.specs.Handshake.{NoFlags, BadFlags, has_no_zeroes, handshake_destination}
use Rattle.nm_haggle.specs.Haggling.{HandshakeLeads}
use Rattle.nm_haggle.specs.Output.{Appends}
use Rattle.nm_haggle.specs.Progress.{Advances}
use Rattle.nm_haggle.proofs.Pieces.{with_flags}

-- the flags that a text begins with
flags_first : (text : List ℕ) (flags : ℕ) → take 4 text ≡ be 4 flags → text ≡ be 4 flags ++ drop 4 text
flags_first text flags e = sym (take-append-drop 4 text) ∙ ap (λ xs. xs ++ drop 4 text) e

-- bits 0 and 1 alone are set below 4
low_bits : (flags : ℕ) → flags < 4 → bit_and flags 3 ≡ flags
low_bits flags l = and_mask flags 2 ∙ (omega (arith, l))

few_bits : (flags : ℕ) → bit_and flags 3 ≡ flags → flags < 4
few_bits flags e = omega (arith, and_mask flags 2, e)

pub no_flags_yet : (export : Export) (text old : List ℕ) → length text < 4
    → Appends old old (λ out. Advances export phase.Flags text out (record { used = 0; next = More; phase = phase.Flags }))
no_flags_yet export text old l = record {
  bytes = [];
  appended = sym (append-nil old);
  holds = record {
    destination = handshake_destination export (NoFlags text);
    leads = record { tree = NoFlags text; valid = l; bytes = refl; destination = refl };
    out_is = refl;
    next_is = refl;
    phase_is = refl;
    within = omega arith;
    rest_is = refl;
  };
}

pub bad_flags : (export : Export) (text old : List ℕ) (flags : ℕ) → 4 ≤ length text → take 4 text ≡ be 4 flags → flags < 2 ^ 32
    → bit_and flags 3 ≢ flags
    → Appends old old (λ out. Advances export phase.Flags text out (record { used = 4; next = Close false; phase = phase.Over }))
bad_flags export text old flags l e f n =
    let four : 4 ≤ flags = ⊎_elim (λ small. absurd (n (low_bits flags small))) (λ large. large) (cases_lt flags 4) in
    record {
      bytes = [];
      appended = sym (append-nil old);
      holds = record {
        destination = handshake_destination export (BadFlags flags (drop 4 text));
        leads = record { tree = BadFlags flags (drop 4 text); valid = (four, f); bytes = flags_first text flags e; destination = refl };
        out_is = refl;
        next_is = refl;
        phase_is = refl;
        within = l;
        rest_is = refl;
      };
    }

pub good_flags : (export : Export) (text rest old new : List ℕ) (flags : ℕ) (p : Progress) → 4 ≤ length text
    → take 4 text ≡ be 4 flags → bit_and flags 3 ≡ flags → rest ≡ drop 4 text
    → Appends old new (λ out. Advances export (phase.Options (has_no_zeroes flags)) rest out p)
    → Appends old new (λ out. Advances export phase.Flags text out (record { used = 4 + p.used; next = p.next; phase = p.phase }))
good_flags export text rest old new flags p l e n r q =
    let a = q.holds in
    let whole : text ≡ be 4 flags ++ rest = flags_first text flags e ∙ ap (λ xs. be 4 flags ++ xs) (sym r) in
    record {
      bytes = q.bytes;
      appended = q.appended;
      holds = record {
        destination = a.destination;
        leads = subst (λ xs. HandshakeLeads export xs a.destination) (sym whole)
            (with_flags export flags rest a.destination (few_bits flags n) a.leads);
        out_is = a.out_is;
        next_is = a.next_is;
        phase_is = a.phase_is;
        within = omega (arith, a.within, ap length r, length-drop 4 text, l);
        rest_is = sym (drop-drop p.used 4 text) ∙ ap (λ xs. drop p.used xs) (sym r) ∙ a.rest_is;
      };
    }
