-- What follows a text that asks for more is read from where that text broke off, and no other way.
use Rattle.std.proofs.Common.{◌≡◌, ◌≢◌, ℕ, ◌+◌, ◌-◌, ◌<◌, ◌≤◌, ◌^◌, Bool, List, [], ◌∷◌, ◌++◌, length, refl, sym, ap, ◌∙◌, subst, arith, length-append}
use Rattle.std.proofs.lemmas.List.{append_assoc}
use Rattle.std.specs.List.{flat_map, AllByRecursion}
use Rattle.nm_wire.specs.Number.{be}
use Rattle.nm_wire.specs.declared.export.Export.{Export}
use Rattle.nm_haggle.specs.declared.next.Next.TheVariants.{More, Close}
use Rattle.nm_haggle.specs.declared.phase.Phase.{Phase}
use Rattle.nm_haggle.specs.declared.phase.Phase.TheVariants as phase
use Rattle.nm_haggle.specs.ClientOption.{ClientOption, option_bytes, IsUnfinished}
use Rattle.nm_haggle.specs.Handshake.{Ending, Waits, Settles, Breaks, Handshake, NoFlags, BadFlags, GoodFlags, ending_bytes, options_bytes, handshake_bytes, IsPassed, IsEnding, IsHandshake, has_no_zeroes, Destination, ending_destination, replies, handshake_destination}
use Rattle.nm_haggle.specs.Haggling.{OptionsLead, HandshakeLeads, Leads, IsAwaited}
use Rattle.nm_wire.proofs.Numbers.{length-be}
use Rattle.nm_haggle.proofs.Elements.{unfinished_is_short, unfinished_not_refused}
use Rattle.nm_haggle.proofs.Trees.{passed_begin, flags_one}
use Rattle.nm_haggle.proofs.Pieces.{concat, asks_more, ending_concat, replies-append}

-- of two ways to cut one text, the shorter first piece has the longer second one
pub longer_prefix : (a x b y : List ℕ) → a ++ x ≡ b ++ y → length a ≤ length b → length y ≤ length x
longer_prefix a x b y e l = omega (arith, ap length e, length-append a x, length-append b y, l)

-- the rest after an end lies in what follows an unfinished rest
ending_within : (export : Export) (nz : Bool) (rest more out : List ℕ) (e : Ending) → IsUnfinished rest → IsEnding export nz e
    → rest ++ more ≡ ending_bytes e → ((ending_destination export nz out e).next ≢ More)
    → length (ending_destination export nz out e).rest ≤ length more
ending_within export nz rest more out (Waits r) u v h n = absurd (n refl)
ending_within export nz rest more out (Settles o x) u l h n =
    let short = unfinished_is_short o rest more x l.accepted u h in
    longer_prefix rest more (option_bytes o) x h (omega (arith, short))
ending_within export nz rest more out (Breaks b x) u r h n =
    let short = unfinished_not_refused rest more b x u r h in
    longer_prefix rest more b x h (omega (arith, short, r.whole))

rest_shorter : (export : Export) (nz : Bool) (out : List ℕ) (e : Ending) → (ending_destination export nz out e).next ≢ More
    → length (ending_destination export nz out e).rest ≤ length (ending_bytes e)
rest_shorter export nz out (Waits r) n = absurd (n refl)
rest_shorter export nz out (Settles o x) n = omega (arith, length-append (option_bytes o) x)
rest_shorter export nz out (Breaks b x) n = omega (arith, length-append b x)

lists_within : (export : Export) (nz : Bool) (os : List ClientOption) (rest more out : List ℕ) (e : Ending) → IsUnfinished rest
    → AllByRecursion (IsPassed export nz) os → IsEnding export nz e
    → rest ++ more ≡ flat_map option_bytes os ++ ending_bytes e → (ending_destination export nz out e).next ≢ More
    → length (ending_destination export nz out e).rest ≤ length more
lists_within export nz [] rest more out e u p v h n = ending_within export nz rest more out e u v h n
lists_within export nz (o ∷ os) rest more out e u p v h n =
    let split = h ∙ append_assoc (option_bytes o) (flat_map option_bytes os) (ending_bytes e) in
    let short = unfinished_is_short o rest more (flat_map option_bytes os ++ ending_bytes e) p.0.accepted u split in
    let within = longer_prefix rest more (option_bytes o) (flat_map option_bytes os ++ ending_bytes e) split (omega (arith, short)) in
    omega (arith, within, rest_shorter export nz out e n, length-append (flat_map option_bytes os) (ending_bytes e))

options_within : (export : Export) (nz : Bool) (rest more : List ℕ) (b : Destination) → IsUnfinished rest
    → OptionsLead export nz (rest ++ more) b → b.next ≢ More → length b.rest ≤ length more
options_within export nz rest more b u p n =
    subst (λ (o : Destination). length o.rest ≤ length more) (sym p.destination)
    (lists_within export nz p.tree.answered rest more (replies export nz p.tree.answered) p.tree.ending u
    p.valid.answered p.valid.ending p.bytes (λ h. n (ap (λ (o : Destination). o.next) p.destination ∙ h)))

-- the rest of a text of options is no longer than the text
options_rest_shorter : (export : Export) (nz : Bool) (text : List ℕ) (b : Destination) → OptionsLead export nz text b
    → b.next ≢ More → length b.rest ≤ length text
options_rest_shorter export nz text b p n =
    let shorter = rest_shorter export nz (replies export nz p.tree.answered) p.tree.ending
    (λ h. n (ap (λ (o : Destination). o.next) p.destination ∙ h)) in
    subst (λ (o : Destination). length o.rest ≤ length text) (sym p.destination)
    (omega (arith, shorter, ap length p.bytes, length-append (flat_map option_bytes p.tree.answered) (ending_bytes p.tree.ending)))

flags_within : (export : Export) (rest more : List ℕ) (t : Handshake) (b : Destination) → length rest < 4 → IsHandshake export t
    → b ≡ handshake_destination export t → rest ++ more ≡ handshake_bytes t → b.next ≢ More → length b.rest ≤ length more
flags_within export rest more (NoFlags r) b l v e h n = absurd (n (ap (λ (o : Destination). o.next) e))
flags_within export rest more (BadFlags f x) b l v e h n =
    subst (λ (o : Destination). length o.rest ≤ length more) (sym e)
    (longer_prefix rest more (be 4 f) x h (omega (arith, l, length-be 4 f)))
flags_within export rest more (GoodFlags f os) b l v e h n =
    let within = longer_prefix rest more (be 4 f) (options_bytes os) h (omega (arith, l, length-be 4 f)) in
    let left = options_rest_shorter export (has_no_zeroes f) (options_bytes os) b (record { tree = os; valid = v.1; bytes = refl; destination = e }) n in
    omega (arith, within, left)

-- the rest after an end lies in what follows, from each phase on
pub leads_within : (export : Export) (ph : Phase) (rest more : List ℕ) (b : Destination) → IsAwaited ph rest
    → Leads export ph (rest ++ more) b → b.next ≢ More → length b.rest ≤ length more
leads_within export phase.Flags rest more b u p n = flags_within export rest more p.tree b u p.valid p.destination p.bytes n
leads_within export (phase.Options nz) rest more b u p n = options_within export nz rest more b u p n
leads_within export phase.Over rest more b u p n = absurd p

-- ---- the other way: the tree of the whole text comes apart

pub record Apart (export : Export) (a : Destination) (more : List ℕ) (c : Destination) : Type 0 where
  pub tail : Destination
  pub leads : Leads export a.phase (a.rest ++ more) tail
  pub whole : c ≡ concat a tail

options_apart : (export : Export) (nz : Bool) (text more : List ℕ) (a c : Destination)
    → OptionsLead export nz text a → a.next ≡ More → OptionsLead export nz (text ++ more) c → Apart export a more c
options_apart export nz text more a c p h q =
    let asks = asks_more export nz (replies export nz p.tree.answered) p.tree.ending p.valid.ending
    (ap (λ (o : Destination). o.next) (sym p.destination) ∙ h) in
    let is = p.destination ∙ asks.leads in
    let os = p.tree.answered in
    let split = passed_begin export nz os q.tree.answered (asks.rest ++ more) q.tree.ending p.valid.answered q.valid.answered q.valid.ending
    (sym (append_assoc (flat_map option_bytes os) asks.rest more)
    ∙ ap (λ xs. xs ++ more) (sym (p.bytes ∙ ap (λ e. flat_map option_bytes os ++ ending_bytes e) asks.is))
    ∙ q.bytes) in
    let tail : Destination = ending_destination export nz (replies export nz split.0) q.tree.ending in
    let tail_leads : OptionsLead export nz (asks.rest ++ more) tail =
    record {
      tree = record { answered = split.0; ending = q.tree.ending };
      valid = record { answered = split.1; ending = q.valid.ending };
      bytes = split.3;
      destination = refl;
    } in
    record {
      tail = tail;
      leads = subst (λ (o : Destination). Leads export o.phase (o.rest ++ more) tail) (sym is) tail_leads;
      whole = q.destination
          ∙ ap (λ xs. ending_destination export nz xs q.tree.ending)
          (ap (λ xs. replies export nz xs) split.2 ∙ replies-append export nz os split.0)
          ∙ ending_concat export nz (replies export nz os) (replies export nz split.0) q.tree.ending asks.rest
          ∙ ap (λ o. concat o tail) (sym is);
    }

flags_apart : (export : Export) (t u : Handshake) (text more : List ℕ) (a c : Destination) → IsHandshake export t
    → a ≡ handshake_destination export t → text ≡ handshake_bytes t → a.next ≡ More
    → IsHandshake export u → c ≡ handshake_destination export u → text ++ more ≡ handshake_bytes u → Apart export a more c
unfolding concat
flags_apart export (NoFlags rest) u text more a c v e b h w f k =
    let leads : HandshakeLeads export (rest ++ more) c = record { tree = u; valid = w; bytes = ap (λ xs. xs ++ more) (sym b) ∙ k; destination = f } in
    let same : concat a c ≡ c = ap (λ (xs : List ℕ). (let made : List ℕ → Destination = λ ys. record { out = ys ++ c.out; next = c.next; phase = c.phase; rest = c.rest } in made xs)) (ap (λ (o : Destination). o.out) e) in
    record { tail = c; leads = subst (λ (o : Destination). Leads export o.phase (o.rest ++ more) c) (sym e) leads; whole = sym same }
flags_apart export (BadFlags f x) u text more a c v e b h w g k =
    let no : Close Rattle.std.proofs.Common.false ≡ More = ap (λ (o : Destination). o.next) (sym e) ∙ h in absurd (cc)
flags_apart export (GoodFlags f os) (NoFlags rest) text more a c v e b h w g k =
    absurd (omega (
      arith,
      w,
      ap length (ap (λ xs. xs ++ more) (sym b) ∙ k),
      length-append (be 4 f ++ options_bytes os) more,
      length-append (be 4 f) (options_bytes os),
      length-be 4 f,
    ))
flags_apart export (GoodFlags f os) (BadFlags g x) text more a c v e b h w i k =
    let small : f < 2 ^ 32 = omega (arith, v.0) in
    let one = flags_one f g (options_bytes os ++ more) x small w.1
    (sym (append_assoc (be 4 f) (options_bytes os) more) ∙ ap (λ xs. xs ++ more) (sym b) ∙ k) in
    absurd (omega (arith, v.0, w.0, one.0))
flags_apart export (GoodFlags f os) (GoodFlags g ps) text more a c v e b h w i k =
    let small_f : f < 2 ^ 32 = omega (arith, v.0) in
    let small_g : g < 2 ^ 32 = omega (arith, w.0) in
    let one = flags_one f g (options_bytes os ++ more) (options_bytes ps) small_f small_g
    (sym (append_assoc (be 4 f) (options_bytes os) more) ∙ ap (λ xs. xs ++ more) (sym b) ∙ k) in
    let p : OptionsLead export (has_no_zeroes f) (options_bytes os) a = record { tree = os; valid = v.1; bytes = refl; destination = e } in
    let q : OptionsLead export (has_no_zeroes g) (options_bytes os ++ more) c = record { tree = ps; valid = w.1; bytes = one.1; destination = i } in
    options_apart export (has_no_zeroes f) (options_bytes os) more a c p h
    (subst (λ n. OptionsLead export (has_no_zeroes n) (options_bytes os ++ more) c) (sym one.0) q)

-- what follows leads to the rest of where the whole leads, from each phase on
pub leads_apart : (export : Export) (ph : Phase) (text more : List ℕ) (a c : Destination) → Leads export ph text a → a.next ≡ More
    → Leads export ph (text ++ more) c → Apart export a more c
leads_apart export phase.Flags text more a c p h q =
    flags_apart export p.tree q.tree text more a c p.valid p.destination p.bytes h q.valid q.destination q.bytes
leads_apart export (phase.Options nz) text more a c p h q = options_apart export nz text more a c p h q
leads_apart export phase.Over text more a c p h q = absurd p
