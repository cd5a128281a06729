-- Forms whose spellings never begin with certain words.
use Rattle.std.proofs.Common.{◌≡◌, ℕ, Bool, true, false, inl, inr, List, None, refl, ap, ◌∙◌}
use Rattle.std.specs.Prelude.{codes, ◌&&◌, not}
use Rattle.coda_script.specs.declared.line.Line.{Line}
use Rattle.coda_script.specs.Slots.{is_word}
use Rattle.coda_script.specs.Form.{Form, ends, nothing, either, a_number, a_path, a_name, some_rights, a_text, perhaps, servers_above}
use Rattle.coda_script.specs.Table.{script, setup_forms, actor_forms, last_forms, extra_forms}
use Rattle.coda_script.specs.Spelling.{begins, Spells}

-- no spelling of the form begins with a word that the test holds of, as its words show
abbrev pub avoids : (List ℕ → Bool) → Form → Bool
avoids test (ends kind said) = true
avoids test nothing = true
avoids test (either word so other) = not (test word) && avoids test other
avoids test (perhaps word slot next) = not (test word) && avoids test (next None)
avoids test (a_number slot next) = false
avoids test (a_path next) = false
avoids test (a_name next) = false
avoids test (some_rights next) = false
avoids test (a_text slot next) = false
avoids test (servers_above all last next) = false

pub and_left : (a b : Bool) → (a && b) ≡ true → a ≡ true
and_left true b e = refl
and_left false b e = e

pub and_right : (a b : Bool) → (a && b) ≡ true → b ≡ true
and_right true b e = e
and_right false b e = absurd cc

not_true : (a : Bool) → not a ≡ true → a ≡ false
not_true true e = absurd cc
not_true false e = refl

pub avoided : (f : Form) (test : List ℕ → Bool) (ws : List (List ℕ)) (line : Line) → avoids test f ≡ true → Spells f ws line → begins test ws ≡ false
avoided (ends kind said) test ws line a s = ap (begins test) s.0
avoided nothing test ws line a s = absurd s
avoided (either word so other) test ws line a (inl s) = ap (begins test) s.1 ∙ not_true (test word) (and_left (not (test word)) (avoids test other) a)
avoided (either word so other) test ws line a (inr s) = avoided other test ws line (and_right (not (test word)) (avoids test other) a) s.1
avoided (perhaps word slot next) test ws line a (inl s) = ap (begins test) s.2 ∙ not_true (test word) (and_left (not (test word)) (avoids test (next None)) a)
avoided (perhaps word slot next) test ws line a (inr s) = avoided (next None) test ws line (and_right (not (test word)) (avoids test (next None)) a) s.1
avoided (a_number slot next) test ws line a s = absurd cc
avoided (a_path next) test ws line a s = absurd cc
avoided (a_name next) test ws line a s = absurd cc
avoided (some_rights next) test ws line a s = absurd cc
avoided (a_text slot next) test ws line a s = absurd cc
avoided (servers_above all last next) test ws line a s = absurd cc

-- no line of the table begins with `at`
pub script_avoids_at : (ws : List (List ℕ)) (line : Line) → Spells script ws line → begins (is_word (codes "at")) ws ≡ false
unfolding script setup_forms actor_forms last_forms extra_forms
script_avoids_at ws line s = avoided script (is_word (codes "at")) ws line refl s
