-- The two sides of each format agree.
use Rattle.std.proofs.Common.{◌≡◌, ℕ, Option, Some, None, refl}
use Rattle.std.specs.Prelude.{IsTrue}
use Rattle.coda_fid.specs.declared.op.Op.{Op}
use Rattle.coda_fid.specs.declared.op.Op.TheVariants.{Create, Mkdir, Symlink, Store, Setattr, Remove, Rmdir, Rename}
use Rattle.coda_fid.specs.Name.{is_name}
use Rattle.coda_certify.specs.declared.reason.Reason.{Reason}
use Rattle.coda_certify.specs.declared.reason.Reason.TheVariants.{NoDir, Marked, NoObject, WrongKind, NameTaken, NameOther, FidUsed, Changed, AttrChanged, NotEmpty, Loop, VolumeFull}
use Rattle.coda_certify.specs.declared.verdict.Verdict.{Verdict}
use Rattle.coda_certify.specs.declared.verdict.Verdict.TheVariants as verdicts
use Rattle.coda_values.specs.Form.{Size, one, two, four, eight}
use Rattle.coda_values.specs.Parts.{u8, u16, u32, u64, where_holds, between, is_within, counted, optional, number_of}
use Rattle.coda_values.specs.Walks.{Says, Agrees}
use Rattle.coda_values.specs.Table.{attrs_forms, op_forms, reason_forms, verdict_forms, client, server, volume, count, ordinal, name, target, content, fid, sid, over, attrs, attrs_piece, op, may_follow, record_above, records, reason, verdict, create_form, mkdir_form, symlink_form, store_form, setattr_form, remove_form, rmdir_form, rename_form}
use Rattle.coda_values.proofs.PartsAgree.{number_agrees, no_number, no_bytes, tags_placed, where_agrees, counted_agrees, behind_tags, optional_agrees, list_agrees}

-- ---- numbers and bytes

pub between_agrees : (low high : ℕ) (size : Size) → Agrees (between low high (number_of size))
between_agrees low high size = where_agrees (is_within low high) (number_of size) (number_agrees size) (no_number size)

pub name_agrees : Agrees name
name_agrees = where_agrees is_name (counted u8) (counted_agrees u8 (number_agrees one)) (no_bytes u8 (no_number one))

pub target_agrees : (size : Size) → Agrees (target size)
target_agrees size = counted_agrees (between 1 1024 (number_of size)) (between_agrees 1 1024 size)

pub content_agrees : (size : Size) → Agrees (content size)
content_agrees size = counted_agrees (between 0 1048576 (number_of size)) (between_agrees 0 1048576 size)

pub u8_agrees : Agrees u8
u8_agrees = number_agrees one

pub u16_agrees : Agrees u16
u16_agrees = number_agrees two

pub u32_agrees : Agrees u32
u32_agrees = number_agrees four

pub u64_agrees : Agrees u64
u64_agrees = number_agrees eight

pub client_agrees : Agrees client
client_agrees = between_agrees 1 255 one

pub server_agrees : Agrees server
server_agrees = between_agrees 1 8 one

pub volume_agrees : Agrees volume
volume_agrees = between_agrees 1 4294967295 four

pub count_agrees : Agrees count
count_agrees = between_agrees 0 4294967295 eight

pub ordinal_agrees : Agrees ordinal
ordinal_agrees = between_agrees 1 4294967295 eight

-- ---- fid, sid, over

pub fid_agrees : Agrees fid
unfolding fid
fid_agrees = record {
  written = (u32_agrees.written, λ v k. (u32_agrees.written, λ n k. (u32_agrees.written, λ u k. refl)));
  said = λ f fits. (f.volume, _, refl, u32_agrees.said f.volume, (f.vnode, _, refl, u32_agrees.said f.vnode, (f.uniq, _, refl, u32_agrees.said f.uniq, (refl, refl))));
  placed = (u32_agrees.placed, λ v. (u32_agrees.placed, λ n. (u32_agrees.placed, λ u. tt)));
}

pub sid_agrees : Agrees sid
unfolding sid
sid_agrees = record {
  written = (u8_agrees.written, λ c k. (count_agrees.written, λ n k. refl));
  said = λ s fits. (s.client, _, refl, u8_agrees.said s.client, (s.number, _, refl, count_agrees.said s.number, (refl, refl)));
  placed = (u8_agrees.placed, λ c. (count_agrees.placed, λ n. tt));
}

pub over_agrees : Agrees over
unfolding over
over_agrees = record {
  written = (fid_agrees.written, λ f k. (sid_agrees.written, λ s k. refl));
  said = λ o fits. (o.fid, _, refl, fid_agrees.said o.fid, (o.pre, _, refl, sid_agrees.said o.pre, (refl, refl)));
  placed = (fid_agrees.placed, λ f. (sid_agrees.placed, λ s. tt));
}

-- ---- attrs

attrs_said : (mode owner mtime : Option ℕ) → IsTrue (attrs_piece mode owner mtime).fits → Says attrs.form (attrs_piece mode owner mtime) (record { mode = mode; owner = owner; mtime = mtime })
unfolding attrs
attrs_said None None None fits = absurd cc
attrs_said (Some m) None None fits = (1, _, refl, (m, _, refl, u16_agrees.said m, (refl, refl)))
attrs_said None (Some o) None fits = (2, _, refl, (o, _, refl, u32_agrees.said o, (refl, refl)))
attrs_said (Some m) (Some o) None fits = (3, _, refl, (m, _, refl, u16_agrees.said m, (o, _, refl, u32_agrees.said o, (refl, refl))))
attrs_said None None (Some t) fits = (4, _, refl, (t, _, refl, u64_agrees.said t, (refl, refl)))
attrs_said (Some m) None (Some t) fits = (5, _, refl, (m, _, refl, u16_agrees.said m, (t, _, refl, u64_agrees.said t, (refl, refl))))
attrs_said None (Some o) (Some t) fits = (6, _, refl, (o, _, refl, u32_agrees.said o, (t, _, refl, u64_agrees.said t, (refl, refl))))
attrs_said (Some m) (Some o) (Some t) fits = (7, _, refl, (m, _, refl, u16_agrees.said m, (o, _, refl, u32_agrees.said o, (t, _, refl, u64_agrees.said t, (refl, refl)))))

pub attrs_agrees : Agrees attrs
unfolding attrs
attrs_agrees = record {
  written = behind_tags attrs_forms (λ p x. p ≡ attrs.piece x) (
    (u16_agrees.written, λ m k. refl),
    (
      (u32_agrees.written, λ o k. refl),
      (
        (u16_agrees.written, λ m k. (u32_agrees.written, λ o k. refl)),
        (
          (u64_agrees.written, λ t k. refl),
          (
            (u16_agrees.written, λ m k. (u64_agrees.written, λ t k. refl)),
            (
              (u32_agrees.written, λ o k. (u64_agrees.written, λ t k. refl)),
              (
                (u16_agrees.written, λ m k. (u32_agrees.written, λ o k. (u64_agrees.written, λ t k. refl))),
                tt,
              ),
            ),
          ),
        ),
      ),
    ),
  );
  said = λ a fits. attrs_said a.mode a.owner a.mtime fits;
  placed = tags_placed attrs_forms (
    (u16_agrees.placed, λ m. tt),
    (
      (u32_agrees.placed, λ o. tt),
      (
        (u16_agrees.placed, λ m. (u32_agrees.placed, λ o. tt)),
        (
          (u64_agrees.placed, λ t. tt),
          (
            (u16_agrees.placed, λ m. (u64_agrees.placed, λ t. tt)),
            (
              (u32_agrees.placed, λ o. (u64_agrees.placed, λ t. tt)),
              (
                (u16_agrees.placed, λ m. (u32_agrees.placed, λ o. (u64_agrees.placed, λ t. tt))),
                tt,
              ),
            ),
          ),
        ),
      ),
    ),
  );
}

-- ---- op

pub over_option_agrees : Agrees (optional over)
over_option_agrees = optional_agrees over over_agrees

pub fid_option_agrees : Agrees (optional fid)
fid_option_agrees = optional_agrees fid fid_agrees

op_said : (size : Size) (x : Op) → IsTrue ((op size).piece x).fits → Says (op size).form ((op size).piece x) x
unfolding op create_form mkdir_form symlink_form store_form setattr_form remove_form rmdir_form rename_form
op_said size (Create d n f m o) fits = (1, _, refl, (d, _, refl, fid_agrees.said d, (n, _, refl, name_agrees.said n, (f, _, refl, fid_agrees.said f, (m, _, refl, u16_agrees.said m, (o, _, refl, u32_agrees.said o, (refl, refl)))))))
op_said size (Mkdir d n f m o) fits = (2, _, refl, (d, _, refl, fid_agrees.said d, (n, _, refl, name_agrees.said n, (f, _, refl, fid_agrees.said f, (m, _, refl, u16_agrees.said m, (o, _, refl, u32_agrees.said o, (refl, refl)))))))
op_said size (Symlink d n f t m o) fits = (3, _, refl, (d, _, refl, fid_agrees.said d, (n, _, refl, name_agrees.said n, (f, _, refl, fid_agrees.said f, (t, _, refl, (target_agrees size).said t, (m, _, refl, u16_agrees.said m, (o, _, refl, u32_agrees.said o, (refl, refl))))))))
op_said size (Store f s c) fits = (4, _, refl, (f, _, refl, fid_agrees.said f, (s, _, refl, sid_agrees.said s, (c, _, refl, (content_agrees size).said c, (refl, refl)))))
op_said size (Setattr f s a) fits = (5, _, refl, (f, _, refl, fid_agrees.said f, (s, _, refl, sid_agrees.said s, (a, _, refl, attrs_agrees.said a, (refl, refl)))))
op_said size (Remove d n f s) fits = (6, _, refl, (d, _, refl, fid_agrees.said d, (n, _, refl, name_agrees.said n, (f, _, refl, fid_agrees.said f, (s, _, refl, sid_agrees.said s, (refl, refl))))))
op_said size (Rmdir d n f s) fits = (7, _, refl, (d, _, refl, fid_agrees.said d, (n, _, refl, name_agrees.said n, (f, _, refl, fid_agrees.said f, (s, _, refl, sid_agrees.said s, (refl, refl))))))
op_said size (Rename d n e m f o) fits = (8, _, refl, (d, _, refl, fid_agrees.said d, (n, _, refl, name_agrees.said n, (e, _, refl, fid_agrees.said e, (m, _, refl, name_agrees.said m, (f, _, refl, fid_agrees.said f, (o, _, refl, over_option_agrees.said o, (refl, refl))))))))

pub op_agrees : (size : Size) → Agrees (op size)
unfolding op create_form mkdir_form symlink_form store_form setattr_form remove_form rmdir_form rename_form
op_agrees size = record {
  written = behind_tags (op_forms size) (λ p x. p ≡ (op size).piece x) (
    (fid_agrees.written, λ d k. (name_agrees.written, λ n k. (fid_agrees.written, λ f k. (u16_agrees.written, λ m k. (u32_agrees.written, λ o k. refl))))),
    (
      (fid_agrees.written, λ d k. (name_agrees.written, λ n k. (fid_agrees.written, λ f k. (u16_agrees.written, λ m k. (u32_agrees.written, λ o k. refl))))),
      (
        (fid_agrees.written, λ d k. (name_agrees.written, λ n k. (fid_agrees.written, λ f k. ((target_agrees size).written, λ t k. (u16_agrees.written, λ m k. (u32_agrees.written, λ o k. refl)))))),
        (
          (fid_agrees.written, λ f k. (sid_agrees.written, λ s k. ((content_agrees size).written, λ c k. refl))),
          (
            (fid_agrees.written, λ f k. (sid_agrees.written, λ s k. (attrs_agrees.written, λ a k. refl))),
            (
              (fid_agrees.written, λ d k. (name_agrees.written, λ n k. (fid_agrees.written, λ f k. (sid_agrees.written, λ s k. refl)))),
              (
                (fid_agrees.written, λ d k. (name_agrees.written, λ n k. (fid_agrees.written, λ f k. (sid_agrees.written, λ s k. refl)))),
                (
                  (fid_agrees.written, λ d k. (name_agrees.written, λ n k. (fid_agrees.written, λ e k. (name_agrees.written, λ m k. (fid_agrees.written, λ f k. (over_option_agrees.written, λ o k. refl)))))),
                  tt,
                ),
              ),
            ),
          ),
        ),
      ),
    ),
  );
  said = op_said size;
  placed = tags_placed (op_forms size) (
    (fid_agrees.placed, λ d. (name_agrees.placed, λ n. (fid_agrees.placed, λ f. (u16_agrees.placed, λ m. (u32_agrees.placed, λ o. tt))))),
    (
      (fid_agrees.placed, λ d. (name_agrees.placed, λ n. (fid_agrees.placed, λ f. (u16_agrees.placed, λ m. (u32_agrees.placed, λ o. tt))))),
      (
        (fid_agrees.placed, λ d. (name_agrees.placed, λ n. (fid_agrees.placed, λ f. ((target_agrees size).placed, λ t. (u16_agrees.placed, λ m. (u32_agrees.placed, λ o. tt)))))),
        (
          (fid_agrees.placed, λ f. (sid_agrees.placed, λ s. ((content_agrees size).placed, λ c. tt))),
          (
            (fid_agrees.placed, λ f. (sid_agrees.placed, λ s. (attrs_agrees.placed, λ a. tt))),
            (
              (fid_agrees.placed, λ d. (name_agrees.placed, λ n. (fid_agrees.placed, λ f. (sid_agrees.placed, λ s. tt)))),
              (
                (fid_agrees.placed, λ d. (name_agrees.placed, λ n. (fid_agrees.placed, λ f. (sid_agrees.placed, λ s. tt)))),
                (
                  (fid_agrees.placed, λ d. (name_agrees.placed, λ n. (fid_agrees.placed, λ e. (name_agrees.placed, λ m. (fid_agrees.placed, λ f. (over_option_agrees.placed, λ o. tt)))))),
                  tt,
                ),
              ),
            ),
          ),
        ),
      ),
    ),
  );
}

-- ---- record

pub may_follow_agrees : (before : ℕ) → Agrees (where_holds (may_follow before) u64)
may_follow_agrees before = where_agrees (may_follow before) u64 u64_agrees (no_number eight)

pub record_agrees : (size : Size) (before : ℕ) → Agrees (record_above size before)
unfolding record_above
record_agrees size before = record {
  written = ((may_follow_agrees before).written, λ n k. (u64_agrees.written, λ t k. ((op_agrees size).written, λ o k. refl)));
  said = λ r fits. (r.number, _, refl, (may_follow_agrees before).said r.number, (r.time, _, refl, u64_agrees.said r.time, (r.op, _, refl, (op_agrees size).said r.op, (refl, refl))));
  placed = ((may_follow_agrees before).placed, λ n. (u64_agrees.placed, λ t. ((op_agrees size).placed, λ o. tt)));
}

pub records_agrees : (size : Size) → Agrees (records size)
unfolding records
records_agrees size = list_agrees (record_above size) (λ r. r.number) 0 (record_agrees size)

-- ---- reason, verdict

reason_said : (x : Reason) → IsTrue (reason.piece x).fits → Says reason.form (reason.piece x) x
unfolding reason
reason_said (NoDir f) fits = (1, _, refl, (f, _, refl, fid_agrees.said f, (refl, refl)))
reason_said (Marked f) fits = (2, _, refl, (f, _, refl, fid_agrees.said f, (refl, refl)))
reason_said (NoObject f) fits = (3, _, refl, (f, _, refl, fid_agrees.said f, (refl, refl)))
reason_said (WrongKind f) fits = (4, _, refl, (f, _, refl, fid_agrees.said f, (refl, refl)))
reason_said (NameTaken f) fits = (5, _, refl, (f, _, refl, fid_agrees.said f, (refl, refl)))
reason_said (NameOther f) fits = (6, _, refl, (f, _, refl, fid_option_agrees.said f, (refl, refl)))
reason_said (FidUsed f) fits = (7, _, refl, (f, _, refl, fid_agrees.said f, (refl, refl)))
reason_said (Changed s t) fits = (8, _, refl, (s, _, refl, sid_agrees.said s, (t, _, refl, sid_agrees.said t, (refl, refl))))
reason_said (AttrChanged s t) fits = (9, _, refl, (s, _, refl, sid_agrees.said s, (t, _, refl, sid_agrees.said t, (refl, refl))))
reason_said NotEmpty fits = (10, _, refl, (refl, refl))
reason_said Loop fits = (11, _, refl, (refl, refl))
reason_said (VolumeFull n) fits = (12, _, refl, (n, _, refl, u64_agrees.said n, (refl, refl)))

pub reason_agrees : Agrees reason
unfolding reason
reason_agrees = record {
  written = behind_tags reason_forms (λ p x. p ≡ reason.piece x) (
    (fid_agrees.written, λ f k. refl),
    (
      (fid_agrees.written, λ f k. refl),
      (
        (fid_agrees.written, λ f k. refl),
        (
          (fid_agrees.written, λ f k. refl),
          (
            (fid_agrees.written, λ f k. refl),
            (
              (fid_option_agrees.written, λ f k. refl),
              (
                (fid_agrees.written, λ f k. refl),
                (
                  (sid_agrees.written, λ s k. (sid_agrees.written, λ t k. refl)),
                  (
                    (sid_agrees.written, λ s k. (sid_agrees.written, λ t k. refl)),
                    (
                      refl,
                      (
                        refl,
                        (
                          (u64_agrees.written, λ n k. refl),
                          tt,
                        ),
                      ),
                    ),
                  ),
                ),
              ),
            ),
          ),
        ),
      ),
    ),
  );
  said = reason_said;
  placed = tags_placed reason_forms (
    (fid_agrees.placed, λ f. tt),
    (
      (fid_agrees.placed, λ f. tt),
      (
        (fid_agrees.placed, λ f. tt),
        (
          (fid_agrees.placed, λ f. tt),
          (
            (fid_agrees.placed, λ f. tt),
            (
              (fid_option_agrees.placed, λ f. tt),
              (
                (fid_agrees.placed, λ f. tt),
                (
                  (sid_agrees.placed, λ s. (sid_agrees.placed, λ t. tt)),
                  (
                    (sid_agrees.placed, λ s. (sid_agrees.placed, λ t. tt)),
                    (
                      tt,
                      (
                        tt,
                        (
                          (u64_agrees.placed, λ n. tt),
                          tt,
                        ),
                      ),
                    ),
                  ),
                ),
              ),
            ),
          ),
        ),
      ),
    ),
  );
}

verdict_said : (x : Verdict) → IsTrue (verdict.piece x).fits → Says verdict.form (verdict.piece x) x
unfolding verdict
verdict_said verdicts.Applied fits = (0, _, refl, (refl, refl))
verdict_said (verdicts.Conflict n r) fits = (1, _, refl, (n, _, refl, ordinal_agrees.said n, (r, _, refl, reason_agrees.said r, (refl, refl))))

pub verdict_agrees : Agrees verdict
unfolding verdict
verdict_agrees = record {
  written = behind_tags verdict_forms (λ p x. p ≡ verdict.piece x) (
    refl,
    (
      (ordinal_agrees.written, λ n k. (reason_agrees.written, λ r k. refl)),
      tt,
    ),
  );
  said = verdict_said;
  placed = tags_placed verdict_forms (
    tt,
    (
      (ordinal_agrees.placed, λ n. (reason_agrees.placed, λ r. tt)),
      tt,
    ),
  );
}
