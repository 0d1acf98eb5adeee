-- What a caller last knew of a word, which crq_rows defines.
pub use Rattle.crq_rows.specs.Known.{is_exchange, is_link, known_by, rather, last_known, Expects, Stays, Works, turns_after}
