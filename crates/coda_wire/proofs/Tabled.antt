-- The two sides of the format of messages agree.
use Rattle.std.proofs.Common.{◌≡◌, ℕ, [], ◌∷◌, refl}
use Rattle.std.specs.Prelude.{IsTrue, true}
use Rattle.coda_record.specs.Form.{both, number_piece, one, four, Size, Form}
use Rattle.coda_record.specs.Parts.{optional}
use Rattle.coda_record.specs.Walks.{Always, Says, IsPlaced, Agrees}
use Rattle.coda_record.proofs.PartsAgree.{behind_tags, tags_placed, optional_agrees}
use Rattle.coda_record.proofs.Tabled.{client_agrees, server_agrees, volume_agrees, ordinal_agrees, fid_agrees, records_agrees, answer_agrees}
use Rattle.coda_values.proofs.NodesAgree.{node_agrees}
use Rattle.coda_values.proofs.HeldAgree.{vector_agrees, fids_agree}
use Rattle.coda_wire.specs.declared.message.Message.{Message}
use Rattle.coda_wire.specs.declared.message.Message.TheVariants.{Chunk, Verdict, Fetch, Break}
use Rattle.coda_wire.specs.declared.message.Message.TheVariants as messages
use Rattle.coda_wire.specs.Table.{versioned, chunk_form, verdict_form, fetch_form, found_object, found_form, break_form, message_forms, message}

behind_version : (tag : ℕ) (form : Form Message) → Always form (λ p m. both (number_piece one tag) (both (number_piece one 1) p) ≡ message.piece m) → Always (versioned form) (λ p m. both (number_piece one tag) p ≡ message.piece m)
behind_version tag form a = behind_tags ((1, form) ∷ []) (λ p m. both (number_piece one tag) p ≡ message.piece m) (a, tt)

behind_version_placed : (form : Form Message) → IsPlaced true form → IsPlaced true (versioned form)
behind_version_placed form placed = tags_placed ((1, form) ∷ []) (placed, tt)

pub found_object_agrees : (size : Size) → Agrees (found_object size)
unfolding found_object
found_object_agrees size = record {
  written = ((node_agrees size).written, λ n k. (vector_agrees.written, λ v k. refl));
  said = λ o fits. (o.0, _, refl, (node_agrees size).said o.0, (o.1, _, refl, vector_agrees.said o.1, (refl, refl)));
  placed = ((node_agrees size).placed, λ n. (vector_agrees.placed, λ v. tt));
}

found_option_agrees : (size : Size) → Agrees (optional (found_object size))
found_option_agrees size = optional_agrees (found_object size) (found_object_agrees size)

message_said : (m : Message) → IsTrue (message.piece m).fits → Says message.form (message.piece m) m
unfolding message chunk_form verdict_form fetch_form found_form break_form
message_said (Chunk c s v n rs) fits = (1, _, refl, (1, _, refl, (c, _, refl, client_agrees.said c, (s, _, refl, server_agrees.said s, (v, _, refl, volume_agrees.said v, (n, _, refl, ordinal_agrees.said n, (rs, _, refl, (records_agrees four).said rs, (refl, refl))))))))
message_said (Verdict s c v n a) fits = (2, _, refl, (1, _, refl, (s, _, refl, server_agrees.said s, (c, _, refl, client_agrees.said c, (v, _, refl, volume_agrees.said v, (n, _, refl, ordinal_agrees.said n, (a, _, refl, answer_agrees.said a, (refl, refl))))))))
message_said (Fetch c s f) fits = (3, _, refl, (1, _, refl, (c, _, refl, client_agrees.said c, (s, _, refl, server_agrees.said s, (f, _, refl, fid_agrees.said f, (refl, refl))))))
message_said (messages.Node s c f o) fits = (4, _, refl, (1, _, refl, (s, _, refl, server_agrees.said s, (c, _, refl, client_agrees.said c, (f, _, refl, fid_agrees.said f, (o, _, refl, (found_option_agrees four).said o, (refl, refl)))))))
message_said (Break s c v fs) fits = (5, _, refl, (1, _, refl, (s, _, refl, server_agrees.said s, (c, _, refl, client_agrees.said c, (v, _, refl, volume_agrees.said v, (fs, _, refl, fids_agree.said fs, (refl, refl)))))))

pub message_agrees : Agrees message
unfolding message chunk_form verdict_form fetch_form found_form break_form
message_agrees = record {
  written = behind_tags message_forms (λ p m. p ≡ message.piece m) (
    behind_version 1 (chunk_form four) (client_agrees.written, λ c k. (server_agrees.written, λ s k. (volume_agrees.written, λ v k. (ordinal_agrees.written, λ n k. ((records_agrees four).written, λ rs k. refl))))),
    (
      behind_version 2 verdict_form (server_agrees.written, λ s k. (client_agrees.written, λ c k. (volume_agrees.written, λ v k. (ordinal_agrees.written, λ n k. (answer_agrees.written, λ a k. refl))))),
      (
        behind_version 3 fetch_form (client_agrees.written, λ c k. (server_agrees.written, λ s k. (fid_agrees.written, λ f k. refl))),
        (
          behind_version 4 (found_form four) (server_agrees.written, λ s k. (client_agrees.written, λ c k. (fid_agrees.written, λ f k. ((found_option_agrees four).written, λ o k. refl)))),
          (
            behind_version 5 break_form (server_agrees.written, λ s k. (client_agrees.written, λ c k. (volume_agrees.written, λ v k. (fids_agree.written, λ fs k. refl)))),
            tt,
          ),
        ),
      ),
    ),
  );
  said = message_said;
  placed = tags_placed message_forms (
    behind_version_placed (chunk_form four) (client_agrees.placed, λ c. (server_agrees.placed, λ s. (volume_agrees.placed, λ v. (ordinal_agrees.placed, λ n. ((records_agrees four).placed, λ rs. tt))))),
    (
      behind_version_placed verdict_form (server_agrees.placed, λ s. (client_agrees.placed, λ c. (volume_agrees.placed, λ v. (ordinal_agrees.placed, λ n. (answer_agrees.placed, λ a. tt))))),
      (
        behind_version_placed fetch_form (client_agrees.placed, λ c. (server_agrees.placed, λ s. (fid_agrees.placed, λ f. tt))),
        (
          behind_version_placed (found_form four) (server_agrees.placed, λ s. (client_agrees.placed, λ c. (fid_agrees.placed, λ f. ((found_option_agrees four).placed, λ o. tt)))),
          (
            behind_version_placed break_form (server_agrees.placed, λ s. (client_agrees.placed, λ c. (volume_agrees.placed, λ v. (fids_agree.placed, λ fs. tt)))),
            tt,
          ),
        ),
      ),
    ),
  );
}
