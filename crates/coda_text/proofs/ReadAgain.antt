-- What was printed is one token, and reading it gives the bytes back.
use Rattle.std.proofs.Common.{◌≡◌, ℕ, suc, ◌<◌, List, [], ◌∷◌, get_or, map, Result, Ok, Err, sym, ap, subst, ◌∙◌}
use Rattle.std.specs.Global.{Vec}
use Rattle.coda_text.specs.declared.splitting.Token.{Token}
use Rattle.coda_text.specs.declared.splitting.TextFault.{TextFault}
use Rattle.coda_text.specs.declared.splitting.TextFault.TheVariants.{Memory, BadWord}
use Rattle.coda_text.specs.Words.{Split, word, split_of}
use Rattle.coda_text.specs.Texts.{printed, value_of}
use Rattle.coda_text.specs.Printed.{AreBytes, IsWordFor}
use Rattle.coda_text.specs.Tokens.{token_of, Splits, IsOneToken}
use Rattle.coda_text.proofs.OneWord.{printed_word}

-- each element fits in a byte
pub are_bytes : (bytes : List ℕ) → ((i : ℕ) → get_or bytes i 0 < 256) → AreBytes bytes
are_bytes [] fits = tt
are_bytes (b ∷ bs) fits = (fits 0, are_bytes bs (λ i. fits (suc i)))

pub printed_is_word : (bytes text : List ℕ) → AreBytes bytes → text ≡ printed bytes → IsWordFor text bytes
printed_is_word bytes text fits is = subst (λ (t : List ℕ). IsWordFor t bytes) (sym is) (printed_word bytes fits)

pub printed_is_read : (word value was : List ℕ) → value ≡ value_of word → AreBytes was → printed was ≡ word → value ≡ was
printed_is_read word value was is fits e = is ∙ ap value_of (sym e) ∙ (printed_word was fits).1

pub one_token : (line : List ℕ) (r : Result (Vec Token) TextFault) → Splits (split_of line) r → (bytes : List ℕ) → AreBytes bytes → printed bytes ≡ line → IsOneToken line r
one_token line (Ok tokens) s bytes fits e = s.1 ∙ ap (λ (x : Split). map token_of x.words) (printed_is_word bytes line fits (sym e)).0
one_token line (Err Memory) s bytes fits e = tt
one_token line (Err (BadWord start end)) s bytes fits e =
    let breaks = ap (λ (x : Split). x.breaks) (printed_is_word bytes line fits (sym e)).0 in
    absurd (let none = s.1 in cc)
