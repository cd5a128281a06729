-- The two sides of the formats of values, and of decisions and answers, agree.
pub use Rattle.coda_values.proofs.Tabled.{client_agrees, server_agrees, volume_agrees, count_agrees, ordinal_agrees, fid_agrees, records_agrees}
pub use Rattle.coda_record.proofs.Decided.{lasts_agree, answer_agrees}
