-- Each line whose values are in their ranges has a spelling.
use Rattle.std.proofs.Common.{◌≡◌, ℕ, Bool, true, false, inl, inr, List, [], ◌∷◌, refl, sym, subst, arith}
use Rattle.std.proofs.lemmas.Bool.{le-leb}
use Rattle.std.specs.Prelude.{codes, ◌==◌}
use Rattle.std.specs.Fmt.{decimal}
use Rattle.coda_text.specs.Words.{Word}
use Rattle.coda_text.proofs.Joining.{AreWords, join, joined, bare_word, number_again, decimal_word}
use Rattle.coda_script.specs.declared.line.Task.{Task as ATask}
use Rattle.coda_script.specs.declared.line.Line.{Line}
use Rattle.coda_script.specs.declared.line.Line.TheVariants.{Task, At}
use Rattle.coda_script.specs.Form.{Form, ends, nothing, either, a_number, a_path, a_name, some_rights, a_text, perhaps, servers_above}
use Rattle.coda_script.specs.Table.{script, setup_forms, actor_forms, last_forms, extra_forms}
use Rattle.coda_script.specs.Lines.{first_byte, is_silent}
use Rattle.coda_script.specs.Spelling.{begins, Spells, Says}
use Rattle.coda_script.specs.Ranges.{IsBetween, TaskInRange, InRange, TaskOfBytes, OfBytes}
use Rattle.coda_script.proofs.Avoiding.{avoided}
use Rattle.coda_script.proofs.Possible.{spelled}
use Rattle.coda_script.proofs.Clear.{script_clear}
use Rattle.coda_script.proofs.Tabled.{held, IsPlain, task_has, line_has}

-- ---- no comment, and not blank

-- begins with `#`
abbrev is_hash : List ℕ → Bool
is_hash [] = false
is_hash (b ∷ bs) = b == 35

-- a form that wants a word
abbrev wants_word : Form → Bool
wants_word (ends kind said) = false
wants_word nothing = true
wants_word (either word so other) = wants_word other
wants_word (a_number slot next) = true
wants_word (a_path next) = true
wants_word (a_name next) = true
wants_word (some_rights next) = true
wants_word (a_text slot next) = true
wants_word (perhaps word slot next) = false
wants_word (servers_above all last next) = false

word_wanted : (f : Form) (line : Line) → wants_word f ≡ true → Spells f [] line → ⊥
word_wanted (ends kind said) line w s = absurd cc
word_wanted nothing line w s = s
word_wanted (either word so other) line w (inl s) = absurd (let e = s.1 in cc)
word_wanted (either word so other) line w (inr s) = word_wanted other line w s.1
word_wanted (a_number slot next) line w s = absurd (let e = s.2 in cc)
word_wanted (a_path next) line w s = absurd (let e = s.2 in cc)
word_wanted (a_name next) line w s = absurd (let e = s.2 in cc)
word_wanted (some_rights next) line w s = absurd (let e = s.2 in cc)
word_wanted (a_text slot next) line w s = absurd (let e = s.2 in cc)
word_wanted (perhaps word slot next) line w s = absurd cc
word_wanted (servers_above all last next) line w s = absurd cc

joined_loud : (ws : List (List ℕ)) → AreWords ws → begins is_hash ws ≡ false → (ws ≡ [] → ⊥) → is_silent (join ws) ≡ false
unfolding first_byte
joined_loud [] are hash some = absurd (some refl)
joined_loud ([] ∷ ts) are hash some = absurd are.0
joined_loud ((b ∷ bs) ∷ []) are hash some = rw are.0.apart hash
joined_loud ((b ∷ bs) ∷ u ∷ ts) are hash some = rw are.0.apart hash

script_loud : (ws : List (List ℕ)) (line : Line) → AreWords ws → Spells script ws line → is_silent (join ws) ≡ false
unfolding script setup_forms actor_forms last_forms extra_forms
script_loud ws line are s =
    joined_loud ws are (avoided script is_hash ws line refl s) (λ none. word_wanted script line refl (subst (λ (t : List (List ℕ)). Spells script t line) none s))

-- ---- each line

plain_line : (said : Line) → IsPlain said → InRange said → OfBytes said → (line : List ℕ) × Says line said
plain_line said plain h b =
    let s = spelled script said script_clear (line_has said plain h b) in
    let j = joined s.0 0 s.1 in
    (join s.0, record { loud = script_loud s.0 said s.1 s.2; whole = j.1; spelled = inl (subst (λ (t : List (List ℕ)). Spells script t said) (sym j.0) s.2) })

line_at : (thread : ℕ) (task : ATask) → IsBetween 1 8 thread → TaskInRange task → TaskOfBytes task → (line : List ℕ) × Says line (At thread task)
line_at thread task t h b =
    let s = spelled script (Task task) script_clear (task_has task h b) in
    let fits = (held 1 8 thread (omega arith) t).1 in
    let ws = codes "at" ∷ decimal thread ∷ s.0 in
    let are : AreWords ws = (bare_word (codes "at") refl, (decimal_word thread fits, s.1)) in
    let j = joined ws 0 are in (
      join ws,
      record {
        loud = joined_loud ws are refl (λ none. let e = none in cc);
        whole = j.1;
        spelled = inr (record {
          turn = decimal thread;
          thread = thread;
          rest = s.0;
          task = task;
          words = j.0;
          number = rw (number_again thread fits, le-leb 1 thread t.0, le-leb thread 8 t.1) refl;
          spelled = s.2;
          says = refl;
        });
      },
    )

pub every_line : (said : Line) → InRange said → OfBytes said → (line : List ℕ) × Says line said
every_line (At thread task) h b = line_at thread task h.0 h.1 b
every_line said h b = plain_line said tt h b
