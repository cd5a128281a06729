-- Each place of the table can be completed to a line, but for `resolve V 8`.
use Rattle.std.proofs.Common.{◌≡◌, ℕ, ◌+◌, Bool, true, false, ◌⊎◌, inl, inr, List, [], ◌∷◌, ◌++◌, Option, Some, None, refl, sym, ap, ◌∙◌, arith}
use Rattle.std.specs.Prelude.{codes, ◌&&◌, nat_le, is_some}
use Rattle.std.specs.List.{list_all}
use Rattle.std.proofs.lemmas.Bool.{false≢true, leb-true, le-leb}
use Rattle.coda_text.specs.Numbers.{number_of, begins_with_digit}
use Rattle.coda_script.specs.Slots.{between, number_in, is_word}
use Rattle.coda_script.specs.Table.{create_form, mkdir_form, symlink_form, store_form, setattr_form, remove_form, rmdir_form, rename_form, read_form, list_form, drain_form, refresh_form, giveup_form, volume_form, client_form, link_form, tick_form, hoard_add_form, hoard_form, walk_form, send_form, deliver_form, lose_form, breaks_form, crash_form, recover_form, arm_form, resolve_form, repair_form, show_form, trim_form, hardlink_form, acl_form, clone_form, peek_form, unclone_form, asr_form, heal_form, script, setup_forms, actor_forms, last_forms, extra_forms}
use Rattle.coda_script.specs.Spelling.{SpellServers}
use Rattle.coda_script.specs.FirstColumn.{IsAtLastServer, EndsAtLastServer}
use Rattle.coda_script.proofs.Avoiding.{and_left, and_right}
use Rattle.coda_script.proofs.Binding.{is_itself}
use Rattle.coda_script.proofs.FirstBytes.{number_begins, decimal_begins_so}
use Rattle.coda_script.proofs.Going.{Sure, Goes, server_is}
use Rattle.coda_script.proofs.WrongColumns.{head_is, tail_is, none_some}

-- some lists of words
abbrev Words : Type 1
Words = List (List ℕ) → Type 0

-- ---- servers

fits_too : (s : ℕ) → nat_le (s + 1) 8 ≡ true → nat_le (s + 1) 18446744073709551615 ≡ true
fits_too s e = le-leb (s + 1) 18446744073709551615 (omega (arith, leb-true (s + 1) 8 e))

-- another server is above one, or none is above it
above : (Z : Words) (low s : ℕ) (w : List ℕ) → number_in (between low 8) w ≡ Some s → (number_of w ≡ Some 8 → Z (w ∷ [])) → ((nat_le (s + 1) 8 && true) ≡ true) ⊎ Z (w ∷ [])
above Z low s w e last = elim (server_is low s w e) [
  | inl less ↦ inl (rw less refl)
  | inr eight ↦ inr (last eight)
]

-- the last server of a `volume` line, and of a `resolve` line
volume_ends : (v : List ℕ) (front : List (List ℕ)) (s : List ℕ) → list_all begins_with_digit front ≡ true → number_of s ≡ Some 8 → EndsAtLastServer (codes "volume" ∷ v ∷ codes "on" ∷ (front ++ s ∷ []))
volume_ends v front s d e = (v, front, s, inl refl, d, e)

resolve_ends : (v : List ℕ) (front : List (List ℕ)) (s : List ℕ) → list_all begins_with_digit front ≡ true → number_of s ≡ Some 8 → EndsAtLastServer (codes "resolve" ∷ v ∷ (front ++ s ∷ []))
resolve_ends v front s d e = (v, front, s, inr refl, d, e)

-- servers begin with digits, and `area` doesn't
digits_of : (all : Bool) (last : ℕ) (ws : List (List ℕ)) (ss : List ℕ) → SpellServers all last ws ss → list_all begins_with_digit ws ≡ true
digits_of all last [] [] m = refl
digits_of all last [] (s ∷ ss) m = absurd m
digits_of all last (w ∷ ws) [] m = absurd m
digits_of all last (w ∷ ws) (s ∷ ss) m = rw (number_begins (between (last + 1) 8) w s m.1) (digits_of all s ws ss m.2)

first_digits : (w : List ℕ) (ws : List (List ℕ)) → begins_with_digit w ≡ true → list_all begins_with_digit ws ≡ true → list_all begins_with_digit (w ∷ ws) ≡ true
first_digits w ws d ds = rw d ds

-- no other line has servers that end so, and no servers go on behind their end
other_word : (word : List ℕ) → is_word (codes "volume") word ≡ false → is_word (codes "resolve") word ≡ false → (ws : List (List ℕ)) → EndsAtLastServer (word ∷ ws) → ⊥
other_word word n m ws (v, servers, last, inl e, d, is) = false≢true (sym n ∙ ap (is_word (codes "volume")) (head_is word (codes "volume") ws (v ∷ codes "on" ∷ (servers ++ last ∷ [])) e) ∙ is_itself (codes "volume"))
other_word word n m ws (v, servers, last, inr e, d, is) = false≢true (sym m ∙ ap (is_word (codes "resolve")) (head_is word (codes "resolve") ws (v ∷ (servers ++ last ∷ [])) e) ∙ is_itself (codes "resolve"))

-- no other words are `resolve V 8`
other_stuck : (word : List ℕ) → is_word (codes "resolve") word ≡ false → (ws : List (List ℕ)) → IsAtLastServer (word ∷ ws) → ⊥
other_stuck word n ws (v, s, e, is, eight) = false≢true (sym n ∙ ap (is_word (codes "resolve")) (head_is word (codes "resolve") ws (v ∷ s ∷ []) e) ∙ is_itself (codes "resolve"))

no_stuck : (word : List ℕ) → IsAtLastServer (word ∷ []) → ⊥
no_stuck word (v, s, e, is, eight) = absurd cc

-- and no word that is wrong in a `resolve` line is its 8
stuck_soon : (word : List ℕ) → IsAtLastServer (codes "resolve" ∷ word ∷ []) → ⊥
stuck_soon word (v, s, e, is, eight) = absurd cc

stuck_at : (v word : List ℕ) → number_in (between 1 8) word ≡ None → IsAtLastServer (codes "resolve" ∷ v ∷ word ∷ []) → ⊥
stuck_at v word none (u, s, e, is, eight) =
    let t = tail_is v u (word ∷ []) (s ∷ []) (tail_is (codes "resolve") (codes "resolve") (v ∷ word ∷ []) (u ∷ s ∷ []) e) in
    none_some 8 (sym none ∙ ap (number_in (between 1 8)) (head_is word s [] [] t) ∙ eight)

stuck_late : (v s t : List ℕ) (ts : List (List ℕ)) → IsAtLastServer (codes "resolve" ∷ v ∷ s ∷ t ∷ ts) → ⊥
stuck_late v s t ts (u, r, e, is, eight) = absurd cc

stuck_end : (v s t : List ℕ) (ms : List (List ℕ)) (u : List ℕ) → IsAtLastServer (codes "resolve" ∷ v ∷ s ∷ t ∷ (ms ++ u ∷ [])) → ⊥
stuck_end v s t ms u z = stuck_late v s t (ms ++ u ∷ []) z

no_words : (word : List ℕ) → EndsAtLastServer (word ∷ []) → ⊥
no_words word (v, servers, last, inl e, d, is) = absurd cc
no_words word (v, servers, last, inr e, d, is) = absurd cc

none_there : (servers : List (List ℕ)) (last : List ℕ) → (let ts : List (List ℕ) = [] in ts) ≡ servers ++ last ∷ [] → ⊥
none_there [] last e = absurd cc
none_there (s ∷ ss) last e = absurd cc

no_on : (v : List ℕ) → EndsAtLastServer (codes "volume" ∷ v ∷ []) → ⊥
no_on v (u, servers, last, inl e, d, is) = absurd cc
no_on v (u, servers, last, inr e, d, is) = absurd cc

no_first : (v : List ℕ) → EndsAtLastServer (codes "volume" ∷ v ∷ codes "on" ∷ []) → ⊥
no_first v (u, servers, last, inl e, d, is) = none_there servers last (tail_is (codes "on") (codes "on") [] (servers ++ last ∷ []) (tail_is v u (codes "on" ∷ []) (codes "on" ∷ (servers ++ last ∷ [])) (tail_is (codes "volume") (codes "volume") (v ∷ codes "on" ∷ []) (u ∷ codes "on" ∷ (servers ++ last ∷ [])) e)))
no_first v (u, servers, last, inr e, d, is) = absurd cc

no_server : (v : List ℕ) → EndsAtLastServer (codes "resolve" ∷ v ∷ []) → ⊥
no_server v (u, servers, last, inl e, d, is) = absurd cc
no_server v (u, servers, last, inr e, d, is) = none_there servers last (tail_is v u [] (servers ++ last ∷ []) (tail_is (codes "resolve") (codes "resolve") (v ∷ []) (u ∷ (servers ++ last ∷ [])) e))

all_digits : (servers : List (List ℕ)) (last : List ℕ) → list_all begins_with_digit servers ≡ true → number_of last ≡ Some 8 → list_all begins_with_digit (servers ++ last ∷ []) ≡ true
all_digits [] last d e = rw (decimal_begins_so last 8 e) refl
all_digits (s ∷ ss) last d e = rw (and_left (begins_with_digit s) (list_all begins_with_digit ss) d) (all_digits ss last (and_right (begins_with_digit s) (list_all begins_with_digit ss) d) e)

no_digits : (ts rest : List (List ℕ)) → list_all begins_with_digit (ts ++ codes "area" ∷ rest) ≡ true → ⊥
no_digits [] rest e = absurd cc
no_digits (t ∷ ts) rest e = no_digits ts rest (and_right (begins_with_digit t) (list_all begins_with_digit (ts ++ codes "area" ∷ rest)) e)

no_area : (v s : List ℕ) (ms rest : List (List ℕ)) → EndsAtLastServer (codes "volume" ∷ v ∷ codes "on" ∷ s ∷ (ms ++ codes "area" ∷ rest)) → ⊥
no_area v s ms rest (u, servers, last, inr e, d, is) = absurd cc
no_area v s ms rest (u, servers, last, inl e, d, is) =
    let ts = s ∷ (ms ++ codes "area" ∷ rest) in
    let us = servers ++ last ∷ [] in
    let t : ts ≡ us = tail_is (codes "on") (codes "on") ts us (tail_is v u (codes "on" ∷ ts) (codes "on" ∷ us) (tail_is (codes "volume") (codes "volume") (v ∷ codes "on" ∷ ts) (u ∷ codes "on" ∷ us) e)) in
    no_digits (s ∷ ms) rest (ap (list_all begins_with_digit) t ∙ all_digits servers last d is)

-- a second server of `resolve` is above the first, or that is 8
second : (s : ℕ) (w : List ℕ) → number_in (between 1 8) w ≡ Some s → ((nat_le (s + 1) 8 && nat_le (s + 1) 18446744073709551615 && true) ≡ true) ⊎ (number_of w ≡ Some 8)
second s w e = elim (server_is 1 s w e) [
  | inl less ↦ inl (rw (less, fits_too s less) refl)
  | inr last ↦ inr last
]

first : (v s : ℕ) (wv ws : List ℕ) → number_in (between 1 4294967295) wv ≡ Some v → number_in (between 1 8) ws ≡ Some s
    → ((nat_le (s + 1) 8 && nat_le (s + 1) 18446744073709551615 && true) ≡ true) ⊎ IsAtLastServer (codes "resolve" ∷ wv ∷ ws ∷ [])
first v s wv ws ev es = elim (second s ws es) [
  | inl less ↦ inl less
  | inr last ↦ inr (wv, ws, refl, ap (λ (o : Option ℕ). is_some o) ev, rw last refl)
]

full_first : (s : ℕ) (wv ws : List ℕ) → number_in (between 1 8) ws ≡ Some s → ((nat_le (s + 1) 8 && nat_le (s + 1) 18446744073709551615 && true) ≡ true) ⊎ EndsAtLastServer (codes "resolve" ∷ wv ∷ ws ∷ [])
full_first s wv ws es = elim (second s ws es) [
  | inl less ↦ inl less
  | inr last ↦ inr (resolve_ends wv [] ws refl last)
]

-- ---- the forms

create_sure : Sure create_form
unfolding create_form
create_sure = (refl, refl, refl)

create_goes : (X Z : Words) → ((ws : List (List ℕ)) → X ws → ⊥) → ((ws : List (List ℕ)) → Z ws → ⊥) → Goes X Z create_form
unfolding create_form
create_goes X Z stuck none = (λ u n. stuck _, λ w n e. ((inl refl, refl, inl refl, λ z. absurd (none _ z)), (λ u n. stuck _, λ w n e. ((inl refl, refl, inl refl, λ z. absurd (none _ z)), (λ u. stuck _, λ w p e. ((refl, refl, refl), none _, (refl, refl, none _, refl, refl, refl, λ u. stuck _, λ w n e. ((refl, refl, refl), none _, (refl, refl, none _, refl, refl, refl, λ u. stuck _, λ w n e. ((refl, refl, refl), none _, (refl, λ u. stuck _)), (refl, λ u. stuck _))), (refl, refl, none _, refl, refl, refl, λ u. stuck _, λ w n e. ((refl, refl, refl), none _, (refl, λ u. stuck _)), (refl, λ u. stuck _)))))))))

mkdir_sure : Sure mkdir_form
unfolding mkdir_form
mkdir_sure = (refl, refl, refl)

mkdir_goes : (X Z : Words) → ((ws : List (List ℕ)) → X ws → ⊥) → ((ws : List (List ℕ)) → Z ws → ⊥) → Goes X Z mkdir_form
unfolding mkdir_form
mkdir_goes X Z stuck none = (λ u n. stuck _, λ w n e. ((inl refl, refl, inl refl, λ z. absurd (none _ z)), (λ u n. stuck _, λ w n e. ((inl refl, refl, inl refl, λ z. absurd (none _ z)), (λ u. stuck _, λ w p e. ((refl, refl, refl), none _, (refl, refl, none _, refl, refl, refl, λ u. stuck _, λ w n e. ((refl, refl, refl), none _, (refl, refl, none _, refl, refl, refl, λ u. stuck _, λ w n e. ((refl, refl, refl), none _, (refl, λ u. stuck _)), (refl, λ u. stuck _))), (refl, refl, none _, refl, refl, refl, λ u. stuck _, λ w n e. ((refl, refl, refl), none _, (refl, λ u. stuck _)), (refl, λ u. stuck _)))))))))

symlink_sure : Sure symlink_form
unfolding symlink_form
symlink_sure = (refl, refl, refl)

symlink_goes : (X Z : Words) → ((ws : List (List ℕ)) → X ws → ⊥) → ((ws : List (List ℕ)) → Z ws → ⊥) → Goes X Z symlink_form
unfolding symlink_form
symlink_goes X Z stuck none = (λ u n. stuck _, λ w n e. ((inl refl, refl, inl refl, λ z. absurd (none _ z)), (λ u n. stuck _, λ w n e. ((inl refl, refl, inl refl, λ z. absurd (none _ z)), (λ u. stuck _, λ w p e. ((refl, refl, refl), none _, (refl, λ u. stuck _, λ w t e. ((refl, refl, refl), none _, (refl, λ u. stuck _)))))))))

store_sure : Sure store_form
unfolding store_form
store_sure = (refl, refl, refl)

store_goes : (X Z : Words) → ((ws : List (List ℕ)) → X ws → ⊥) → ((ws : List (List ℕ)) → Z ws → ⊥) → Goes X Z store_form
unfolding store_form
store_goes X Z stuck none = (λ u n. stuck _, λ w n e. ((inl refl, refl, inl refl, λ z. absurd (none _ z)), (λ u n. stuck _, λ w n e. ((inl refl, refl, inl refl, λ z. absurd (none _ z)), (λ u. stuck _, λ w p e. ((refl, refl, refl), none _, (refl, (refl, refl, refl), none _, refl, refl, refl, (refl, λ u. stuck _, λ w t e. ((refl, refl, refl), none _, (refl, λ u. stuck _))), (refl, (refl, refl, refl), none _, refl, refl, refl, (λ u n. stuck _, λ w n e. ((inl refl, refl, inl refl, λ z. absurd (none _ z)), (λ u n. stuck _, λ w n e. ((inl refl, refl, inl refl, λ z. absurd (none _ z)), (refl, λ u. stuck _))))), (λ u. stuck _)))))))))

setattr_sure : Sure setattr_form
unfolding setattr_form
setattr_sure = (refl, refl, refl)

setattr_goes : (X Z : Words) → ((ws : List (List ℕ)) → X ws → ⊥) → ((ws : List (List ℕ)) → Z ws → ⊥) → Goes X Z setattr_form
unfolding setattr_form
setattr_goes X Z stuck none = (λ u n. stuck _, λ w n e. ((inl refl, refl, inl refl, λ z. absurd (none _ z)), (λ u n. stuck _, λ w n e. ((inl refl, refl, inl refl, λ z. absurd (none _ z)), (λ u. stuck _, λ w p e. ((refl, refl, refl), none _, (refl, (refl, refl, refl), none _, refl, refl, refl, (λ u n. stuck _, λ w n e. ((inl refl, refl, inl refl, λ z. absurd (none _ z)), (refl, refl, none _, refl, refl, refl, λ u. stuck _, λ w n e. ((refl, refl, refl), none _, (refl, refl, none _, refl, refl, refl, λ u. stuck _, λ w n e. ((refl, refl, refl), none _, (refl, λ u. stuck _)), (refl, λ u. stuck _))), (refl, refl, none _, refl, refl, refl, λ u. stuck _, λ w n e. ((refl, refl, refl), none _, (refl, λ u. stuck _)), (refl, λ u. stuck _))))), (refl, (refl, refl, refl), none _, refl, refl, refl, (λ u n. stuck _, λ w n e. ((inl refl, refl, inl refl, λ z. absurd (none _ z)), (refl, refl, none _, refl, refl, refl, λ u. stuck _, λ w n e. ((refl, refl, refl), none _, (refl, λ u. stuck _)), (refl, λ u. stuck _)))), (refl, (refl, refl, refl), none _, refl, refl, refl, (λ u n. stuck _, λ w n e. ((inl refl, refl, inl refl, λ z. absurd (none _ z)), (refl, λ u. stuck _))), (λ u. stuck _))))))))))

remove_sure : Sure remove_form
unfolding remove_form
remove_sure = (refl, refl, refl)

remove_goes : (X Z : Words) → ((ws : List (List ℕ)) → X ws → ⊥) → ((ws : List (List ℕ)) → Z ws → ⊥) → Goes X Z remove_form
unfolding remove_form
remove_goes X Z stuck none = (λ u n. stuck _, λ w n e. ((inl refl, refl, inl refl, λ z. absurd (none _ z)), (λ u n. stuck _, λ w n e. ((inl refl, refl, inl refl, λ z. absurd (none _ z)), (λ u. stuck _, λ w p e. ((refl, refl, refl), none _, (refl, λ u. stuck _)))))))

rmdir_sure : Sure rmdir_form
unfolding rmdir_form
rmdir_sure = (refl, refl, refl)

rmdir_goes : (X Z : Words) → ((ws : List (List ℕ)) → X ws → ⊥) → ((ws : List (List ℕ)) → Z ws → ⊥) → Goes X Z rmdir_form
unfolding rmdir_form
rmdir_goes X Z stuck none = (λ u n. stuck _, λ w n e. ((inl refl, refl, inl refl, λ z. absurd (none _ z)), (λ u n. stuck _, λ w n e. ((inl refl, refl, inl refl, λ z. absurd (none _ z)), (λ u. stuck _, λ w p e. ((refl, refl, refl), none _, (refl, λ u. stuck _)))))))

rename_sure : Sure rename_form
unfolding rename_form
rename_sure = (refl, refl, refl)

rename_goes : (X Z : Words) → ((ws : List (List ℕ)) → X ws → ⊥) → ((ws : List (List ℕ)) → Z ws → ⊥) → Goes X Z rename_form
unfolding rename_form
rename_goes X Z stuck none = (λ u n. stuck _, λ w n e. ((inl refl, refl, inl refl, λ z. absurd (none _ z)), (λ u n. stuck _, λ w n e. ((inl refl, refl, inl refl, λ z. absurd (none _ z)), (λ u. stuck _, λ w p e. ((refl, refl, refl), none _, (λ u. stuck _, λ w p e. ((refl, refl, refl), none _, (refl, λ u. stuck _)))))))))

read_sure : Sure read_form
unfolding read_form
read_sure = (refl, refl, refl)

read_goes : (X Z : Words) → ((ws : List (List ℕ)) → X ws → ⊥) → ((ws : List (List ℕ)) → Z ws → ⊥) → Goes X Z read_form
unfolding read_form
read_goes X Z stuck none = (λ u n. stuck _, λ w n e. ((inl refl, refl, inl refl, λ z. absurd (none _ z)), (λ u n. stuck _, λ w n e. ((inl refl, refl, inl refl, λ z. absurd (none _ z)), (λ u. stuck _, λ w p e. ((refl, refl, refl), none _, (refl, λ u. stuck _)))))))

list_sure : Sure list_form
unfolding list_form
list_sure = (refl, refl, refl)

list_goes : (X Z : Words) → ((ws : List (List ℕ)) → X ws → ⊥) → ((ws : List (List ℕ)) → Z ws → ⊥) → Goes X Z list_form
unfolding list_form
list_goes X Z stuck none = (λ u n. stuck _, λ w n e. ((inl refl, refl, inl refl, λ z. absurd (none _ z)), (λ u n. stuck _, λ w n e. ((inl refl, refl, inl refl, λ z. absurd (none _ z)), (λ u. stuck _, λ w p e. ((refl, refl, refl), none _, (refl, λ u. stuck _)))))))

drain_sure : Sure drain_form
unfolding drain_form
drain_sure = (refl, refl, refl)

drain_goes : (X Z : Words) → ((ws : List (List ℕ)) → X ws → ⊥) → ((ws : List (List ℕ)) → Z ws → ⊥) → Goes X Z drain_form
unfolding drain_form
drain_goes X Z stuck none = (λ u n. stuck _, λ w n e. ((inl refl, refl, inl refl, λ z. absurd (none _ z)), (λ u n. stuck _, λ w n e. ((inl refl, refl, inl refl, λ z. absurd (none _ z)), (λ u n. stuck _, λ w n e. ((inl refl, refl, inl refl, λ z. absurd (none _ z)), (refl, refl, none _, refl, refl, refl, λ u. stuck _, λ w n e. ((refl, refl, refl), none _, (refl, λ u. stuck _)), (refl, λ u. stuck _))))))))

refresh_sure : Sure refresh_form
unfolding refresh_form
refresh_sure = (refl, refl, refl)

refresh_goes : (X Z : Words) → ((ws : List (List ℕ)) → X ws → ⊥) → ((ws : List (List ℕ)) → Z ws → ⊥) → Goes X Z refresh_form
unfolding refresh_form
refresh_goes X Z stuck none = (λ u n. stuck _, λ w n e. ((inl refl, refl, inl refl, λ z. absurd (none _ z)), (λ u n. stuck _, λ w n e. ((inl refl, refl, inl refl, λ z. absurd (none _ z)), (λ u n. stuck _, λ w n e. ((inl refl, refl, inl refl, λ z. absurd (none _ z)), (refl, λ u. stuck _)))))))

giveup_sure : Sure giveup_form
unfolding giveup_form
giveup_sure = (refl, refl, refl)

giveup_goes : (X Z : Words) → ((ws : List (List ℕ)) → X ws → ⊥) → ((ws : List (List ℕ)) → Z ws → ⊥) → Goes X Z giveup_form
unfolding giveup_form
giveup_goes X Z stuck none = (λ u n. stuck _, λ w n e. ((inl refl, refl, inl refl, λ z. absurd (none _ z)), (λ u n. stuck _, λ w n e. ((inl refl, refl, inl refl, λ z. absurd (none _ z)), (refl, λ u. stuck _)))))

volume_sure : Sure volume_form
unfolding volume_form
volume_sure = (refl, refl, refl)

volume_goes : (X : Words) → ((ws : List (List ℕ)) → X ws → ⊥) → Goes X (λ ws. EndsAtLastServer (codes "volume" ∷ ws)) volume_form
unfolding volume_form
volume_goes X stuck = (λ u n. stuck _, λ wv v e. ((inl refl, refl, inl refl, λ z. absurd (no_on wv z)), (refl, (refl, refl, refl), no_first wv, refl, refl, refl, (λ u n. stuck _, λ ws s es. ((inl refl, refl, above (λ ts. EndsAtLastServer (codes "volume" ∷ wv ∷ codes "on" ∷ ts)) 1 s ws es (volume_ends wv [] ws refl), λ z. refl), λ ms ss h. ((refl, refl, refl), refl, refl, refl, λ m. volume_ends wv (ws ∷ ms) m (first_digits ws ms (number_begins (between 1 8) ws s es) (digits_of false s ms ss h)), λ u. stuck _, (refl, refl, no_area wv ws ms [], refl, refl, refl, λ u. stuck _, λ w n e. ((refl, refl, refl), no_area wv ws ms (w ∷ []), (refl, λ u. stuck _)), (refl, λ u. stuck _))))), (λ u. stuck _))))

client_sure : Sure client_form
unfolding client_form
client_sure = (refl, refl, refl)

client_goes : (X Z : Words) → ((ws : List (List ℕ)) → X ws → ⊥) → ((ws : List (List ℕ)) → Z ws → ⊥) → Goes X Z client_form
unfolding client_form
client_goes X Z stuck none = (λ u n. stuck _, λ w n e. ((inl refl, refl, inl refl, λ z. absurd (none _ z)), (refl, (refl, refl, refl), none _, refl, refl, refl, (λ u n. stuck _, λ w n e. ((inl refl, refl, inl refl, λ z. absurd (none _ z)), (refl, refl, none _, refl, refl, refl, λ u. stuck _, λ w n e. ((refl, refl, refl), none _, (refl, λ u. stuck _)), (refl, λ u. stuck _)))), (λ u. stuck _))))

link_sure : Sure link_form
unfolding link_form
link_sure = (refl, refl, refl)

link_goes : (X Z : Words) → ((ws : List (List ℕ)) → X ws → ⊥) → ((ws : List (List ℕ)) → Z ws → ⊥) → Goes X Z link_form
unfolding link_form
link_goes X Z stuck none = (λ u n. stuck _, λ w n e. ((inl refl, refl, inl refl, λ z. absurd (none _ z)), (λ u n. stuck _, λ w n e. ((inl refl, refl, inl refl, λ z. absurd (none _ z)), (refl, (refl, refl, refl), none _, refl, refl, refl, (refl, λ u. stuck _), (refl, (refl, refl, refl), none _, refl, refl, refl, (refl, λ u. stuck _), (refl, (refl, refl, refl), none _, refl, refl, refl, (refl, λ u. stuck _), (λ u. stuck _))))))))

tick_sure : Sure tick_form
unfolding tick_form
tick_sure = (refl, refl, refl)

tick_goes : (X Z : Words) → ((ws : List (List ℕ)) → X ws → ⊥) → ((ws : List (List ℕ)) → Z ws → ⊥) → Goes X Z tick_form
unfolding tick_form
tick_goes X Z stuck none = (λ u n. stuck _, λ w n e. ((inl refl, refl, inl refl, λ z. absurd (none _ z)), (refl, λ u. stuck _)))

hoard_add_sure : Sure hoard_add_form
unfolding hoard_add_form
hoard_add_sure = (refl, refl, refl)

hoard_add_goes : (X Z : Words) → ((ws : List (List ℕ)) → X ws → ⊥) → ((ws : List (List ℕ)) → Z ws → ⊥) → Goes X Z hoard_add_form
unfolding hoard_add_form
hoard_add_goes X Z stuck none = (λ u n. stuck _, λ w n e. ((inl refl, refl, inl refl, λ z. absurd (none _ z)), (λ u n. stuck _, λ w n e. ((inl refl, refl, inl refl, λ z. absurd (none _ z)), (λ u. stuck _, λ w p e. ((refl, refl, refl), none _, (λ u n. stuck _, λ w n e. ((inl refl, refl, inl refl, λ z. absurd (none _ z)), (refl, (refl, refl, refl), none _, refl, refl, refl, (refl, λ u. stuck _), (refl, (refl, refl, refl), none _, refl, refl, refl, (refl, λ u. stuck _), (refl, λ u. stuck _)))))))))))

hoard_sure : Sure hoard_form
unfolding hoard_form hoard_add_form
hoard_sure = (refl, refl, refl)

hoard_goes : (X Z : Words) → ((ws : List (List ℕ)) → X ws → ⊥) → ((ws : List (List ℕ)) → Z ws → ⊥) → Goes X Z hoard_form
unfolding hoard_form hoard_add_form
hoard_goes X Z stuck none = (refl, hoard_add_sure, none _, refl, refl, refl, hoard_add_goes (λ ws. X (codes "add" ∷ ws)) (λ ws. Z (codes "add" ∷ ws)) (λ ws. stuck (codes "add" ∷ ws)) (λ ws. none (codes "add" ∷ ws)), (refl, (refl, refl, refl), none _, refl, refl, refl, (λ u n. stuck _, λ w n e. ((inl refl, refl, inl refl, λ z. absurd (none _ z)), (λ u n. stuck _, λ w n e. ((inl refl, refl, inl refl, λ z. absurd (none _ z)), (λ u. stuck _, λ w p e. ((refl, refl, refl), none _, (refl, λ u. stuck _))))))), (refl, (refl, refl, refl), none _, refl, refl, refl, (λ u n. stuck _, λ w n e. ((inl refl, refl, inl refl, λ z. absurd (none _ z)), (refl, λ u. stuck _))), (refl, (refl, refl, refl), none _, refl, refl, refl, (λ u n. stuck _, λ w n e. ((inl refl, refl, inl refl, λ z. absurd (none _ z)), (refl, λ u. stuck _))), (λ u. stuck _)))))

walk_sure : Sure walk_form
unfolding walk_form
walk_sure = (refl, refl, refl)

walk_goes : (X Z : Words) → ((ws : List (List ℕ)) → X ws → ⊥) → ((ws : List (List ℕ)) → Z ws → ⊥) → Goes X Z walk_form
unfolding walk_form
walk_goes X Z stuck none = (λ u n. stuck _, λ w n e. ((inl refl, refl, inl refl, λ z. absurd (none _ z)), (λ u n. stuck _, λ w n e. ((inl refl, refl, inl refl, λ z. absurd (none _ z)), (refl, λ u. stuck _)))))

send_sure : Sure send_form
unfolding send_form
send_sure = (refl, refl, refl)

send_goes : (X Z : Words) → ((ws : List (List ℕ)) → X ws → ⊥) → ((ws : List (List ℕ)) → Z ws → ⊥) → Goes X Z send_form
unfolding send_form
send_goes X Z stuck none = (λ u n. stuck _, λ w n e. ((inl refl, refl, inl refl, λ z. absurd (none _ z)), (λ u n. stuck _, λ w n e. ((inl refl, refl, inl refl, λ z. absurd (none _ z)), (λ u n. stuck _, λ w n e. ((inl refl, refl, inl refl, λ z. absurd (none _ z)), (refl, refl, none _, refl, refl, refl, λ u. stuck _, λ w n e. ((refl, refl, refl), none _, (refl, λ u. stuck _)), (refl, λ u. stuck _))))))))

deliver_sure : Sure deliver_form
unfolding deliver_form
deliver_sure = (refl, refl, refl)

deliver_goes : (X Z : Words) → ((ws : List (List ℕ)) → X ws → ⊥) → ((ws : List (List ℕ)) → Z ws → ⊥) → Goes X Z deliver_form
unfolding deliver_form
deliver_goes X Z stuck none = (λ u n. stuck _, λ w n e. ((inl refl, refl, inl refl, λ z. absurd (none _ z)), (refl, λ u. stuck _)))

lose_sure : Sure lose_form
unfolding lose_form
lose_sure = (refl, refl, refl)

lose_goes : (X Z : Words) → ((ws : List (List ℕ)) → X ws → ⊥) → ((ws : List (List ℕ)) → Z ws → ⊥) → Goes X Z lose_form
unfolding lose_form
lose_goes X Z stuck none = (λ u n. stuck _, λ w n e. ((inl refl, refl, inl refl, λ z. absurd (none _ z)), (refl, λ u. stuck _)))

breaks_sure : Sure breaks_form
unfolding breaks_form
breaks_sure = (refl, refl, refl)

breaks_goes : (X Z : Words) → ((ws : List (List ℕ)) → X ws → ⊥) → ((ws : List (List ℕ)) → Z ws → ⊥) → Goes X Z breaks_form
unfolding breaks_form
breaks_goes X Z stuck none = (λ u n. stuck _, λ w n e. ((inl refl, refl, inl refl, λ z. absurd (none _ z)), (λ u n. stuck _, λ w n e. ((inl refl, refl, inl refl, λ z. absurd (none _ z)), (refl, λ u. stuck _)))))

crash_sure : Sure crash_form
unfolding crash_form
crash_sure = (refl, refl, refl)

crash_goes : (X Z : Words) → ((ws : List (List ℕ)) → X ws → ⊥) → ((ws : List (List ℕ)) → Z ws → ⊥) → Goes X Z crash_form
unfolding crash_form
crash_goes X Z stuck none = (refl, (refl, refl, refl), none _, refl, refl, refl, (λ u n. stuck _, λ w n e. ((inl refl, refl, inl refl, λ z. absurd (none _ z)), (λ u n. stuck _, λ w n e. ((inl refl, refl, inl refl, λ z. absurd (none _ z)), (refl, λ u. stuck _))))), (refl, (refl, refl, refl), none _, refl, refl, refl, (λ u n. stuck _, λ w n e. ((inl refl, refl, inl refl, λ z. absurd (none _ z)), (λ u n. stuck _, λ w n e. ((inl refl, refl, inl refl, λ z. absurd (none _ z)), (λ u n. stuck _, λ w n e. ((inl refl, refl, inl refl, λ z. absurd (none _ z)), (refl, λ u. stuck _))))))), (λ u. stuck _)))

recover_sure : Sure recover_form
unfolding recover_form
recover_sure = (refl, refl, refl)

recover_goes : (X Z : Words) → ((ws : List (List ℕ)) → X ws → ⊥) → ((ws : List (List ℕ)) → Z ws → ⊥) → Goes X Z recover_form
unfolding recover_form
recover_goes X Z stuck none = (refl, (refl, refl, refl), none _, refl, refl, refl, (λ u n. stuck _, λ w n e. ((inl refl, refl, inl refl, λ z. absurd (none _ z)), (refl, λ u. stuck _))), (refl, (refl, refl, refl), none _, refl, refl, refl, (λ u n. stuck _, λ w n e. ((inl refl, refl, inl refl, λ z. absurd (none _ z)), (λ u n. stuck _, λ w n e. ((inl refl, refl, inl refl, λ z. absurd (none _ z)), (refl, λ u. stuck _))))), (λ u. stuck _)))

arm_sure : Sure arm_form
unfolding arm_form
arm_sure = (refl, refl, refl)

arm_goes : (X Z : Words) → ((ws : List (List ℕ)) → X ws → ⊥) → ((ws : List (List ℕ)) → Z ws → ⊥) → Goes X Z arm_form
unfolding arm_form
arm_goes X Z stuck none = (refl, (refl, refl, refl), none _, refl, refl, refl, (λ u n. stuck _, λ w n e. ((inl refl, refl, inl refl, λ z. absurd (none _ z)), (λ u n. stuck _, λ w n e. ((inl refl, refl, inl refl, λ z. absurd (none _ z)), (refl, λ u. stuck _))))), (refl, (refl, refl, refl), none _, refl, refl, refl, (λ u n. stuck _, λ w n e. ((inl refl, refl, inl refl, λ z. absurd (none _ z)), (λ u n. stuck _, λ w n e. ((inl refl, refl, inl refl, λ z. absurd (none _ z)), (λ u n. stuck _, λ w n e. ((inl refl, refl, inl refl, λ z. absurd (none _ z)), (refl, λ u. stuck _))))))), (λ u. stuck _)))

resolve_sure : Sure resolve_form
unfolding resolve_form
resolve_sure = (refl, refl, refl)

resolve_goes : Goes (λ ws. IsAtLastServer (codes "resolve" ∷ ws)) (λ ws. EndsAtLastServer (codes "resolve" ∷ ws)) resolve_form
unfolding resolve_form
resolve_goes = (λ u n. stuck_soon u, λ wv v ev. ((inl refl, refl, inl refl, λ z. absurd (no_server wv z)), (λ u n. stuck_at wv u n, λ ws s es. ((first v s wv ws ev es, refl, full_first s wv ws es, λ z. refl), (λ u n. stuck_late wv ws u [], λ w t e. ((inl refl, refl, above (λ ts. EndsAtLastServer (codes "resolve" ∷ wv ∷ ws ∷ ts)) (s + 1) t w e (resolve_ends wv (ws ∷ []) w (first_digits ws [] (number_begins (between 1 8) ws s es) refl)), λ z. refl), λ ms ss h. ((refl, refl, refl), refl, refl, refl, λ m. resolve_ends wv (ws ∷ w ∷ ms) m (first_digits ws (w ∷ ms) (number_begins (between 1 8) ws s es) (first_digits w ms (number_begins (between (s + 1) 8) w t e) (digits_of true t ms ss h))), λ u. stuck_late wv ws w (ms ++ u ∷ []), (refl, λ u. stuck_end wv ws w ms u))))))))

repair_sure : Sure repair_form
unfolding repair_form
repair_sure = (refl, refl, refl)

repair_goes : (X Z : Words) → ((ws : List (List ℕ)) → X ws → ⊥) → ((ws : List (List ℕ)) → Z ws → ⊥) → Goes X Z repair_form
unfolding repair_form
repair_goes X Z stuck none = (λ u n. stuck _, λ w n e. ((inl refl, refl, inl refl, λ z. absurd (none _ z)), (λ u n. stuck _, λ w n e. ((inl refl, refl, inl refl, λ z. absurd (none _ z)), (λ u. stuck _, λ w p e. ((refl, refl, refl), none _, (refl, λ u. stuck _)))))))

show_sure : Sure show_form
unfolding show_form
show_sure = (refl, refl, refl)

show_goes : (X Z : Words) → ((ws : List (List ℕ)) → X ws → ⊥) → ((ws : List (List ℕ)) → Z ws → ⊥) → Goes X Z show_form
unfolding show_form
show_goes X Z stuck none = (refl, (refl, refl, refl), none _, refl, refl, refl, (λ u n. stuck _, λ w n e. ((inl refl, refl, inl refl, λ z. absurd (none _ z)), (λ u n. stuck _, λ w n e. ((inl refl, refl, inl refl, λ z. absurd (none _ z)), (refl, λ u. stuck _))))), (refl, (refl, refl, refl), none _, refl, refl, refl, (λ u n. stuck _, λ w n e. ((inl refl, refl, inl refl, λ z. absurd (none _ z)), (λ u n. stuck _, λ w n e. ((inl refl, refl, inl refl, λ z. absurd (none _ z)), (refl, λ u. stuck _))))), (refl, (refl, refl, refl), none _, refl, refl, refl, (λ u n. stuck _, λ w n e. ((inl refl, refl, inl refl, λ z. absurd (none _ z)), (λ u n. stuck _, λ w n e. ((inl refl, refl, inl refl, λ z. absurd (none _ z)), (refl, λ u. stuck _))))), (λ u. stuck _))))

trim_sure : Sure trim_form
unfolding trim_form
trim_sure = (refl, refl, refl)

trim_goes : (X Z : Words) → ((ws : List (List ℕ)) → X ws → ⊥) → ((ws : List (List ℕ)) → Z ws → ⊥) → Goes X Z trim_form
unfolding trim_form
trim_goes X Z stuck none = (λ u n. stuck _, λ w n e. ((inl refl, refl, inl refl, λ z. absurd (none _ z)), (λ u n. stuck _, λ w n e. ((inl refl, refl, inl refl, λ z. absurd (none _ z)), (refl, λ u. stuck _)))))

hardlink_sure : Sure hardlink_form
unfolding hardlink_form
hardlink_sure = (refl, refl, refl)

hardlink_goes : (X Z : Words) → ((ws : List (List ℕ)) → X ws → ⊥) → ((ws : List (List ℕ)) → Z ws → ⊥) → Goes X Z hardlink_form
unfolding hardlink_form
hardlink_goes X Z stuck none = (λ u n. stuck _, λ w n e. ((inl refl, refl, inl refl, λ z. absurd (none _ z)), (λ u n. stuck _, λ w n e. ((inl refl, refl, inl refl, λ z. absurd (none _ z)), (λ u. stuck _, λ w p e. ((refl, refl, refl), none _, (λ u. stuck _, λ w p e. ((refl, refl, refl), none _, (refl, λ u. stuck _)))))))))

acl_sure : Sure acl_form
unfolding acl_form
acl_sure = (refl, refl, refl)

acl_goes : (X Z : Words) → ((ws : List (List ℕ)) → X ws → ⊥) → ((ws : List (List ℕ)) → Z ws → ⊥) → Goes X Z acl_form
unfolding acl_form
acl_goes X Z stuck none = (λ u n. stuck _, λ w n e. ((inl refl, refl, inl refl, λ z. absurd (none _ z)), (λ u n. stuck _, λ w n e. ((inl refl, refl, inl refl, λ z. absurd (none _ z)), (λ u. stuck _, λ w p e. ((refl, refl, refl), none _, (λ u n. stuck _, λ w n e. ((inl refl, refl, inl refl, λ z. absurd (none _ z)), (λ u. stuck _, λ w p e. ((refl, refl, refl), none _, (λ u. stuck _, λ w p e. ((refl, refl, refl), none _, (refl, λ u. stuck _)))))))))))))

clone_sure : Sure clone_form
unfolding clone_form
clone_sure = (refl, refl, refl)

clone_goes : (X Z : Words) → ((ws : List (List ℕ)) → X ws → ⊥) → ((ws : List (List ℕ)) → Z ws → ⊥) → Goes X Z clone_form
unfolding clone_form
clone_goes X Z stuck none = (λ u n. stuck _, λ w n e. ((inl refl, refl, inl refl, λ z. absurd (none _ z)), (λ u n. stuck _, λ w n e. ((inl refl, refl, inl refl, λ z. absurd (none _ z)), (refl, λ u. stuck _)))))

peek_sure : Sure peek_form
unfolding peek_form
peek_sure = (refl, refl, refl)

peek_goes : (X Z : Words) → ((ws : List (List ℕ)) → X ws → ⊥) → ((ws : List (List ℕ)) → Z ws → ⊥) → Goes X Z peek_form
unfolding peek_form
peek_goes X Z stuck none = (λ u n. stuck _, λ w n e. ((inl refl, refl, inl refl, λ z. absurd (none _ z)), (λ u n. stuck _, λ w n e. ((inl refl, refl, inl refl, λ z. absurd (none _ z)), (λ u n. stuck _, λ w n e. ((inl refl, refl, inl refl, λ z. absurd (none _ z)), (λ u. stuck _, λ w p e. ((refl, refl, refl), none _, (refl, λ u. stuck _)))))))))

unclone_sure : Sure unclone_form
unfolding unclone_form
unclone_sure = (refl, refl, refl)

unclone_goes : (X Z : Words) → ((ws : List (List ℕ)) → X ws → ⊥) → ((ws : List (List ℕ)) → Z ws → ⊥) → Goes X Z unclone_form
unfolding unclone_form
unclone_goes X Z stuck none = (λ u n. stuck _, λ w n e. ((inl refl, refl, inl refl, λ z. absurd (none _ z)), (λ u n. stuck _, λ w n e. ((inl refl, refl, inl refl, λ z. absurd (none _ z)), (λ u n. stuck _, λ w n e. ((inl refl, refl, inl refl, λ z. absurd (none _ z)), (refl, λ u. stuck _)))))))

asr_sure : Sure asr_form
unfolding asr_form
asr_sure = (refl, refl, refl)

asr_goes : (X Z : Words) → ((ws : List (List ℕ)) → X ws → ⊥) → ((ws : List (List ℕ)) → Z ws → ⊥) → Goes X Z asr_form
unfolding asr_form
asr_goes X Z stuck none = (λ u n. stuck _, λ w n e. ((inl refl, refl, inl refl, λ z. absurd (none _ z)), (λ u. stuck _, λ w p e. ((refl, refl, refl), none _, (refl, (refl, refl, refl), none _, refl, refl, refl, (refl, λ u. stuck _), (refl, (refl, refl, refl), none _, refl, refl, refl, (refl, λ u. stuck _), (λ u. stuck _)))))))

heal_sure : Sure heal_form
unfolding heal_form
heal_sure = (refl, refl, refl)

heal_goes : (X Z : Words) → ((ws : List (List ℕ)) → X ws → ⊥) → ((ws : List (List ℕ)) → Z ws → ⊥) → Goes X Z heal_form
unfolding heal_form
heal_goes X Z stuck none = (λ u n. stuck _, λ w n e. ((inl refl, refl, inl refl, λ z. absurd (none _ z)), (λ u. stuck _, λ w p e. ((refl, refl, refl), none _, (refl, λ u. stuck _)))))

-- ---- the table

extra_goes : Goes IsAtLastServer EndsAtLastServer extra_forms
unfolding extra_forms
extra_goes = (refl, trim_sure, no_words (codes "trim"), refl, refl, refl, trim_goes (λ ws. IsAtLastServer (codes "trim" ∷ ws)) (λ ws. EndsAtLastServer (codes "trim" ∷ ws)) (other_stuck (codes "trim") refl) (other_word (codes "trim") refl refl), (refl, hardlink_sure, no_words (codes "hardlink"), refl, refl, refl, hardlink_goes (λ ws. IsAtLastServer (codes "hardlink" ∷ ws)) (λ ws. EndsAtLastServer (codes "hardlink" ∷ ws)) (other_stuck (codes "hardlink") refl) (other_word (codes "hardlink") refl refl), (refl, acl_sure, no_words (codes "acl"), refl, refl, refl, acl_goes (λ ws. IsAtLastServer (codes "acl" ∷ ws)) (λ ws. EndsAtLastServer (codes "acl" ∷ ws)) (other_stuck (codes "acl") refl) (other_word (codes "acl") refl refl), (refl, clone_sure, no_words (codes "clone"), refl, refl, refl, clone_goes (λ ws. IsAtLastServer (codes "clone" ∷ ws)) (λ ws. EndsAtLastServer (codes "clone" ∷ ws)) (other_stuck (codes "clone") refl) (other_word (codes "clone") refl refl), (refl, peek_sure, no_words (codes "peek"), refl, refl, refl, peek_goes (λ ws. IsAtLastServer (codes "peek" ∷ ws)) (λ ws. EndsAtLastServer (codes "peek" ∷ ws)) (other_stuck (codes "peek") refl) (other_word (codes "peek") refl refl), (refl, unclone_sure, no_words (codes "unclone"), refl, refl, refl, unclone_goes (λ ws. IsAtLastServer (codes "unclone" ∷ ws)) (λ ws. EndsAtLastServer (codes "unclone" ∷ ws)) (other_stuck (codes "unclone") refl) (other_word (codes "unclone") refl refl), (refl, asr_sure, no_words (codes "asr"), refl, refl, refl, asr_goes (λ ws. IsAtLastServer (codes "asr" ∷ ws)) (λ ws. EndsAtLastServer (codes "asr" ∷ ws)) (other_stuck (codes "asr") refl) (other_word (codes "asr") refl refl), (refl, heal_sure, no_words (codes "heal"), refl, refl, refl, heal_goes (λ ws. IsAtLastServer (codes "heal" ∷ ws)) (λ ws. EndsAtLastServer (codes "heal" ∷ ws)) (other_stuck (codes "heal") refl) (other_word (codes "heal") refl refl), no_stuck))))))))

last_goes : Goes IsAtLastServer EndsAtLastServer last_forms
unfolding last_forms extra_forms
last_goes = (refl, resolve_sure, no_words (codes "resolve"), refl, refl, refl, resolve_goes, (refl, repair_sure, no_words (codes "repair"), refl, refl, refl, repair_goes (λ ws. IsAtLastServer (codes "repair" ∷ ws)) (λ ws. EndsAtLastServer (codes "repair" ∷ ws)) (other_stuck (codes "repair") refl) (other_word (codes "repair") refl refl), (refl, show_sure, no_words (codes "show"), refl, refl, refl, show_goes (λ ws. IsAtLastServer (codes "show" ∷ ws)) (λ ws. EndsAtLastServer (codes "show" ∷ ws)) (other_stuck (codes "show") refl) (other_word (codes "show") refl refl), extra_goes)))

actor_goes : Goes IsAtLastServer EndsAtLastServer actor_forms
unfolding actor_forms last_forms extra_forms
actor_goes = (refl, hoard_sure, no_words (codes "hoard"), refl, refl, refl, hoard_goes (λ ws. IsAtLastServer (codes "hoard" ∷ ws)) (λ ws. EndsAtLastServer (codes "hoard" ∷ ws)) (other_stuck (codes "hoard") refl) (other_word (codes "hoard") refl refl), (refl, walk_sure, no_words (codes "walk"), refl, refl, refl, walk_goes (λ ws. IsAtLastServer (codes "walk" ∷ ws)) (λ ws. EndsAtLastServer (codes "walk" ∷ ws)) (other_stuck (codes "walk") refl) (other_word (codes "walk") refl refl), (refl, send_sure, no_words (codes "send"), refl, refl, refl, send_goes (λ ws. IsAtLastServer (codes "send" ∷ ws)) (λ ws. EndsAtLastServer (codes "send" ∷ ws)) (other_stuck (codes "send") refl) (other_word (codes "send") refl refl), (refl, deliver_sure, no_words (codes "deliver"), refl, refl, refl, deliver_goes (λ ws. IsAtLastServer (codes "deliver" ∷ ws)) (λ ws. EndsAtLastServer (codes "deliver" ∷ ws)) (other_stuck (codes "deliver") refl) (other_word (codes "deliver") refl refl), (refl, lose_sure, no_words (codes "lose"), refl, refl, refl, lose_goes (λ ws. IsAtLastServer (codes "lose" ∷ ws)) (λ ws. EndsAtLastServer (codes "lose" ∷ ws)) (other_stuck (codes "lose") refl) (other_word (codes "lose") refl refl), (refl, breaks_sure, no_words (codes "breaks"), refl, refl, refl, breaks_goes (λ ws. IsAtLastServer (codes "breaks" ∷ ws)) (λ ws. EndsAtLastServer (codes "breaks" ∷ ws)) (other_stuck (codes "breaks") refl) (other_word (codes "breaks") refl refl), (refl, crash_sure, no_words (codes "crash"), refl, refl, refl, crash_goes (λ ws. IsAtLastServer (codes "crash" ∷ ws)) (λ ws. EndsAtLastServer (codes "crash" ∷ ws)) (other_stuck (codes "crash") refl) (other_word (codes "crash") refl refl), (refl, recover_sure, no_words (codes "recover"), refl, refl, refl, recover_goes (λ ws. IsAtLastServer (codes "recover" ∷ ws)) (λ ws. EndsAtLastServer (codes "recover" ∷ ws)) (other_stuck (codes "recover") refl) (other_word (codes "recover") refl refl), (refl, arm_sure, no_words (codes "arm"), refl, refl, refl, arm_goes (λ ws. IsAtLastServer (codes "arm" ∷ ws)) (λ ws. EndsAtLastServer (codes "arm" ∷ ws)) (other_stuck (codes "arm") refl) (other_word (codes "arm") refl refl), last_goes)))))))))

setup_goes : Goes IsAtLastServer EndsAtLastServer setup_forms
unfolding setup_forms actor_forms last_forms extra_forms
setup_goes = (refl, volume_sure, no_words (codes "volume"), refl, refl, refl, volume_goes (λ ws. IsAtLastServer (codes "volume" ∷ ws)) (other_stuck (codes "volume") refl), (refl, client_sure, no_words (codes "client"), refl, refl, refl, client_goes (λ ws. IsAtLastServer (codes "client" ∷ ws)) (λ ws. EndsAtLastServer (codes "client" ∷ ws)) (other_stuck (codes "client") refl) (other_word (codes "client") refl refl), (refl, link_sure, no_words (codes "link"), refl, refl, refl, link_goes (λ ws. IsAtLastServer (codes "link" ∷ ws)) (λ ws. EndsAtLastServer (codes "link" ∷ ws)) (other_stuck (codes "link") refl) (other_word (codes "link") refl refl), (refl, tick_sure, no_words (codes "tick"), refl, refl, refl, tick_goes (λ ws. IsAtLastServer (codes "tick" ∷ ws)) (λ ws. EndsAtLastServer (codes "tick" ∷ ws)) (other_stuck (codes "tick") refl) (other_word (codes "tick") refl refl), (refl, list_sure, no_words (codes "list"), refl, refl, refl, list_goes (λ ws. IsAtLastServer (codes "list" ∷ ws)) (λ ws. EndsAtLastServer (codes "list" ∷ ws)) (other_stuck (codes "list") refl) (other_word (codes "list") refl refl), (refl, drain_sure, no_words (codes "drain"), refl, refl, refl, drain_goes (λ ws. IsAtLastServer (codes "drain" ∷ ws)) (λ ws. EndsAtLastServer (codes "drain" ∷ ws)) (other_stuck (codes "drain") refl) (other_word (codes "drain") refl refl), (refl, refresh_sure, no_words (codes "refresh"), refl, refl, refl, refresh_goes (λ ws. IsAtLastServer (codes "refresh" ∷ ws)) (λ ws. EndsAtLastServer (codes "refresh" ∷ ws)) (other_stuck (codes "refresh") refl) (other_word (codes "refresh") refl refl), (refl, giveup_sure, no_words (codes "giveup"), refl, refl, refl, giveup_goes (λ ws. IsAtLastServer (codes "giveup" ∷ ws)) (λ ws. EndsAtLastServer (codes "giveup" ∷ ws)) (other_stuck (codes "giveup") refl) (other_word (codes "giveup") refl refl), actor_goes))))))))

pub script_goes : Goes IsAtLastServer EndsAtLastServer script
unfolding script setup_forms actor_forms last_forms extra_forms
script_goes = (refl, create_sure, no_words (codes "create"), refl, refl, refl, create_goes (λ ws. IsAtLastServer (codes "create" ∷ ws)) (λ ws. EndsAtLastServer (codes "create" ∷ ws)) (other_stuck (codes "create") refl) (other_word (codes "create") refl refl), (refl, mkdir_sure, no_words (codes "mkdir"), refl, refl, refl, mkdir_goes (λ ws. IsAtLastServer (codes "mkdir" ∷ ws)) (λ ws. EndsAtLastServer (codes "mkdir" ∷ ws)) (other_stuck (codes "mkdir") refl) (other_word (codes "mkdir") refl refl), (refl, symlink_sure, no_words (codes "symlink"), refl, refl, refl, symlink_goes (λ ws. IsAtLastServer (codes "symlink" ∷ ws)) (λ ws. EndsAtLastServer (codes "symlink" ∷ ws)) (other_stuck (codes "symlink") refl) (other_word (codes "symlink") refl refl), (refl, store_sure, no_words (codes "store"), refl, refl, refl, store_goes (λ ws. IsAtLastServer (codes "store" ∷ ws)) (λ ws. EndsAtLastServer (codes "store" ∷ ws)) (other_stuck (codes "store") refl) (other_word (codes "store") refl refl), (refl, setattr_sure, no_words (codes "setattr"), refl, refl, refl, setattr_goes (λ ws. IsAtLastServer (codes "setattr" ∷ ws)) (λ ws. EndsAtLastServer (codes "setattr" ∷ ws)) (other_stuck (codes "setattr") refl) (other_word (codes "setattr") refl refl), (refl, remove_sure, no_words (codes "remove"), refl, refl, refl, remove_goes (λ ws. IsAtLastServer (codes "remove" ∷ ws)) (λ ws. EndsAtLastServer (codes "remove" ∷ ws)) (other_stuck (codes "remove") refl) (other_word (codes "remove") refl refl), (refl, rmdir_sure, no_words (codes "rmdir"), refl, refl, refl, rmdir_goes (λ ws. IsAtLastServer (codes "rmdir" ∷ ws)) (λ ws. EndsAtLastServer (codes "rmdir" ∷ ws)) (other_stuck (codes "rmdir") refl) (other_word (codes "rmdir") refl refl), (refl, rename_sure, no_words (codes "rename"), refl, refl, refl, rename_goes (λ ws. IsAtLastServer (codes "rename" ∷ ws)) (λ ws. EndsAtLastServer (codes "rename" ∷ ws)) (other_stuck (codes "rename") refl) (other_word (codes "rename") refl refl), (refl, read_sure, no_words (codes "read"), refl, refl, refl, read_goes (λ ws. IsAtLastServer (codes "read" ∷ ws)) (λ ws. EndsAtLastServer (codes "read" ∷ ws)) (other_stuck (codes "read") refl) (other_word (codes "read") refl refl), setup_goes)))))))))
