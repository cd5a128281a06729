-- Reading servers, and their spellings.
use Rattle.std.proofs.Common.{◌≡◌, ℕ, ◌+◌, Bool, false, inl, inr, List, [], ◌∷◌, ◌++◌, map, Option, Ok, Err, refl, ap, subst, ◌∙◌}
use Rattle.std.specs.Option.{option_map_or}
use Rattle.coda_engine.specs.declared.status.Kind.TheVariants as kinds
use Rattle.coda_text.specs.Words.{Split, Word}
use Rattle.coda_script.specs.Slots.{between, number_in, is_server}
use Rattle.coda_script.specs.Reading.{◌>>=◌, is_next, servers_at}
use Rattle.coda_script.specs.Spelling.{SpellServers}
use Rattle.coda_script.proofs.Binding.{split, texts, ok_is, bind_ok, chosen, option_ok, texts_cons, behind_word}

-- what reading servers took
abbrev pub TookServers : Bool → ℕ → List Word → ℕ → Option ℕ → List ℕ × Split → Type 0
TookServers all last ws end breaks x =
    (mine : List Word) × (rest : List Word) × (ws ≡ mine ++ rest) × SpellServers all last (texts mine) x.0 × (is_next (is_server all) rest ≡ false) × (x.1 ≡ split rest end breaks)

pub servers_took : (all : Bool) (ws : List Word) (last end : ℕ) (breaks : Option ℕ) (x : List ℕ × Split) → servers_at all last (split ws end breaks) ws ≡ Ok x → TookServers all last ws end breaks x
unfolding servers_at
servers_took all [] last end breaks x e = subst (TookServers all last [] end breaks) (ok_is ([], split [] end breaks) x e) ([], [], refl, tt, refl, refl)
servers_took all (w ∷ ws) last end breaks x e =
    elim (chosen (is_server all w.text) (option_map_or (λ s. servers_at all s (split ws end breaks) ws >>= (λ more. Ok (s ∷ more.0, more.1))) (number_in (between (last + 1) 8) w.text) (Err (w.at + 1, kinds.Number))) (Ok ([], split (w ∷ ws) end breaks)) (Ok x) e) [
      | inl t ↦
          let o = option_ok (number_in (between (last + 1) 8) w.text) (λ s. servers_at all s (split ws end breaks) ws >>= (λ more. Ok (s ∷ more.0, more.1))) (w.at + 1, kinds.Number) x t.1 in
          let m = bind_ok (servers_at all o.0 (split ws end breaks) ws) (λ more. Ok (o.0 ∷ more.0, more.1)) x o.2 in
          let k = servers_took all ws o.0 end breaks m.0 m.1 in
          subst (TookServers all last (w ∷ ws) end breaks) (ok_is (o.0 ∷ m.0.0, m.0.1) x m.2) (w ∷ k.0, k.1, behind_word w ws (k.0 ++ k.1) k.2, (t.0, o.1, k.3), k.4, k.5)
      | inr t ↦ subst (TookServers all last (w ∷ ws) end breaks) (ok_is ([], split (w ∷ ws) end breaks) x t.1) ([], w ∷ ws, refl, tt, t.0, refl)
    ]

pub servers_stop : (all : Bool) (ws : List Word) (last end : ℕ) (breaks : Option ℕ) → is_next (is_server all) ws ≡ false → servers_at all last (split ws end breaks) ws ≡ Ok ([], split ws end breaks)
unfolding servers_at
servers_stop all [] last end breaks d = refl
servers_stop all (w ∷ ws) last end breaks d = rw d refl

-- words that spell servers, with others behind them, are read so
pub servers_again : (all : Bool) (mine rest : List Word) (last end : ℕ) (breaks : Option ℕ) (ss : List ℕ) → SpellServers all last (texts mine) ss → is_next (is_server all) rest ≡ false
    → servers_at all last (split (mine ++ rest) end breaks) (mine ++ rest) ≡ Ok (ss, split rest end breaks)
unfolding servers_at
servers_again all [] rest last end breaks [] s d = servers_stop all rest last end breaks d
servers_again all [] rest last end breaks (x ∷ ss) s d = absurd s
servers_again all (w ∷ mine) rest last end breaks [] s d = absurd s
servers_again all (w ∷ mine) rest last end breaks (x ∷ ss) s d = rw (s.0, s.1, servers_again all mine rest x end breaks ss s.2 d) refl

-- words, where their bytes are in two parts
pub texts_parts : (ws : List Word) (mine rest : List (List ℕ)) → texts ws ≡ mine ++ rest → (a : List Word) × (b : List Word) × (ws ≡ a ++ b) × (texts a ≡ mine) × (texts b ≡ rest)
texts_parts ws [] rest e = ([], ws, refl, refl, e)
texts_parts ws (t ∷ mine) rest e =
    let w = texts_cons ws t (mine ++ rest) e in
    let p = texts_parts w.1 mine rest w.4 in
    (w.0 ∷ p.0, p.1, w.2 ∙ behind_word w.0 w.1 (p.0 ++ p.1) p.2, rw (w.3, p.3) refl, p.4)
