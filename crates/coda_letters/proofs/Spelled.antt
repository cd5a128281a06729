-- How many bytes letters have, and that these tell what they say.
use Rattle.std.proofs.Common.{ℕ, ◌+◌, ◌*◌, ◌≤◌, List, [], ◌∷◌, length, length-append, Option, Some, None, arith}
use Rattle.std.specs.List.{flat_map}
use Rattle.coda_fid.specs.declared.op.Attrs.{Attrs}
use Rattle.coda_fid.specs.declared.op.Over.{Over}
use Rattle.coda_fid.specs.declared.op.Op.{Op}
use Rattle.coda_fid.specs.declared.op.Op.TheVariants.{Create, Mkdir, Symlink, Store, Setattr, Remove, Rmdir, Rename}
use Rattle.coda_fid.specs.declared.op.Record.{Record}
use Rattle.coda_fid.specs.Op.{weight_of}
use Rattle.coda_cancel.specs.Weights.{total_weight}
use Rattle.coda_record.specs.declared.answer.Answer.{Answer}
use Rattle.coda_record.specs.declared.answer.Answer.TheVariants as answers
use Rattle.coda_certify.specs.declared.reason.Reason.{Reason}
use Rattle.coda_certify.specs.declared.reason.Reason.TheVariants.{NoDir, Marked, NoObject, WrongKind, NameTaken, NameOther, FidUsed, Changed, AttrChanged, NotEmpty, Loop, VolumeFull}
use Rattle.coda_record.specs.Form.{four}
use Rattle.coda_record.specs.Parts.{u16, u32, u64, optional}
use Rattle.coda_record.specs.Table.{op, over, attrs, where_set, record_above}
use Rattle.coda_record.proofs.Spans.{name_span, create_span, mkdir_span, symlink_span, store_span, setattr_span, attrs_span, remove_span, rmdir_span, rename_span, no_over_span, some_over_span, some_u16_span, some_u32_span, some_u64_span, record_span, records_span, no_fid_span, some_fid_span, reason_span, reason_bytes, answer_span, answer_bytes}
use Rattle.coda_wire.specs.declared.message.Message.TheVariants.{Chunk, Verdict}
use Rattle.coda_wire.specs.Table.{message}
use Rattle.coda_wire.proofs.Spans.{chunk_span, verdict_span}

-- ---- records

over_light : (o : Option Over) → length ((optional over).piece o).bytes ≤ 22
over_light None = let e = no_over_span in omega (arith, e)
over_light (Some o) = let e = some_over_span o in omega (arith, e)

mode_light : (m : Option ℕ) → length (where_set u16 m).bytes ≤ 2
mode_light None = omega arith
mode_light (Some m) = let e = some_u16_span m in omega (arith, e)

owner_light : (o : Option ℕ) → length (where_set u32 o).bytes ≤ 4
owner_light None = omega arith
owner_light (Some o) = let e = some_u32_span o in omega (arith, e)

mtime_light : (t : Option ℕ) → length (where_set u64 t).bytes ≤ 8
mtime_light None = omega arith
mtime_light (Some t) = let e = some_u64_span t in omega (arith, e)

attrs_light : (a : Attrs) → length (attrs.piece a).bytes ≤ 15
attrs_light a =
    let e = attrs_span a in
    let m = mode_light a.mode in
    let o = owner_light a.owner in
    let t = mtime_light a.mtime in
    omega (arith, e, m, o, t)

-- an operation has at most 13 bytes more than it weighs beside the 16 of its record
op_light : (o : Op) → length ((op four).piece o).bytes + 3 ≤ weight_of o + 16
op_light (Create dir n f mode owner) = (let e = create_span dir n f mode owner in let s = name_span n in omega (arith, e, s))
op_light (Mkdir dir n f mode owner) = (let e = mkdir_span dir n f mode owner in let s = name_span n in omega (arith, e, s))
op_light (Symlink dir n f t mode owner) = (let e = symlink_span dir n f t mode owner in let s = name_span n in omega (arith, e, s))
op_light (Store f pre c) = (let e = store_span f pre c in omega (arith, e))
op_light (Setattr f pre a) = (let e = setattr_span f pre a in let s = attrs_light a in omega (arith, e, s))
op_light (Remove dir n f pre) = (let e = remove_span dir n f pre in let s = name_span n in omega (arith, e, s))
op_light (Rmdir dir n f pre) = (let e = rmdir_span dir n f pre in let s = name_span n in omega (arith, e, s))
op_light (Rename from_dir from to_dir to f o) = (let e = rename_span from_dir from to_dir to f o in let s = name_span from in let t = name_span to in let u = over_light o in omega (arith, e, s, t, u))

weighs : (o : Op) → 64 ≤ weight_of o
weighs o = omega arith

all_light : (rs : List Record) → length (flat_map (λ r. ((record_above four 0).piece r).bytes) rs) ≤ 2 * total_weight rs
all_light [] = omega arith
all_light (r ∷ rs) =
    let e = length-append ((record_above four 0).piece r).bytes (flat_map (λ r. ((record_above four 0).piece r).bytes) rs) in
    let s = record_span 0 r in
    let o = op_light r.op in
    let w = weighs r.op in
    let rest = all_light rs in
    omega (arith, e, s, o, w, rest)

pub chunks_are_light : (client server volume number : ℕ) (recs : List Record) → length (message.piece (Chunk client server volume number recs)).bytes ≤ 20 + 2 * total_weight recs
chunks_are_light client server volume number recs =
    let e = chunk_span client server volume number recs in
    let s = records_span recs in
    let a = all_light recs in
    omega (arith, e, s, a)

-- ---- answers

reason_light : (r : Reason) → reason_span r ≤ 19
reason_light (NoDir f) = omega arith
reason_light (Marked f) = omega arith
reason_light (NoObject f) = omega arith
reason_light (WrongKind f) = omega arith
reason_light (NameTaken f) = omega arith
reason_light (NameOther None) = let e = no_fid_span in omega (arith, e)
reason_light (NameOther (Some f)) = let e = some_fid_span f in omega (arith, e)
reason_light (FidUsed f) = omega arith
reason_light (Changed kept found) = omega arith
reason_light (AttrChanged kept found) = omega arith
reason_light NotEmpty = omega arith
reason_light Loop = omega arith
reason_light (VolumeFull n) = omega arith

answer_light : (a : Answer) → answer_span a ≤ 28
answer_light answers.Applied = omega arith
answer_light (answers.Conflict n r) = let e = reason_bytes r in let s = reason_light r in omega (arith, e, s)
answer_light (answers.Behind n) = omega arith
answer_light (answers.Old n) = omega arith

pub answers_are_light : (server client volume number : ℕ) (a : Answer) → length (message.piece (Verdict server client volume number a)).bytes ≤ 67108864
answers_are_light server client volume number a =
    let e = verdict_span server client volume number a in
    let s = answer_bytes a in
    let l = answer_light a in
    omega (arith, e, s, l)
