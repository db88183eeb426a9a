-- The lemmas that several proofs of this crate use.
pub use Rattle.form_urlencoded.proofs.FormLemmas.{All-byte_serialize, IsBytePair, IsSerializedByte, round_trip}
pub use Rattle.m2m_names.proofs.ListLemmas.{all_reversed, all_weaker}
pub use Rattle.m2m_names.proofs.StampReadingLemmas.{moment_at-timestamp, timestamp_is}
pub use Rattle.std.proofs.lemmas.Bool.{and_from, and_parts, cases_Bool, cond-false, cond-true, cond_both, false≢true, le-leb, le-ltb, leb-true, lt-ltb, ltb-true, ne_eqb, not-true}
pub use Rattle.std.proofs.lemmas.Bool.Decides.{Decides-int_eq, nat_tests}
pub use Rattle.std.proofs.lemmas.Fmt.{IsAscii-decimal, decimal_is_IsNumeral, length-decimal-le}
pub use Rattle.std.proofs.lemmas.List.{take_all}
pub use Rattle.std.proofs.lemmas.List.Elements.{All-cons, All-nil, All-weaker}
pub use Rattle.std.proofs.lemmas.List.Sums.{AllPass-from_list_all, list_all-from_AllPass}
pub use Rattle.std.proofs.lemmas.Str.{IsUtf8-from_ascii, is_utf8-from_IsUtf8, utf8_lossy-IsUtf8}
pub use Rattle.std.proofs.lemmas.Str.Ascii.{IsAscii-from_all}
