use Rattle.std.proofs.Common.{◌≡◌, Bool, Result, Ok, Err, MatchResult, is_ok, List, ℕ, sym, ◌∙◌}
use Rattle.std.specs.Str.{is_utf8, IsUtf8}
use Rattle.std.proofs.lemmas.Str.{IsUtf8-from_is_utf8, is_utf8-from_IsUtf8}
use Rattle.std.proofs.lemmas.Bool.{false_from_ne_true}
use Rattle.nm_script_lib.proofs.script.is_utf8.Goals as goal

tells : {T E : Type 0} (P : T → Type 0) (Q : E →
    Type 0) (line : List ℕ) (r : Result T E) (b : Bool) → b ≡ is_ok r →
    MatchResult r (λ s. P s × IsUtf8 line) (λ e. (IsUtf8 line → ⊥) × Q e) → b ≡ is_utf8 line
tells P Q line (Ok s) b e h = e ∙ sym (is_utf8-from_IsUtf8 line h.1)
tells P Q line (Err s) b e h = e ∙
    sym (false_from_ne_true (is_utf8 line) (λ yes. h.0 (IsUtf8-from_is_utf8 line yes)))

pub returns : goal.returns
returns c = tells _ _ c.args.line.now c.from_utf8.result c.is_ok.result c.is_ok.ensures.value
    c.from_utf8.ensures.cases
