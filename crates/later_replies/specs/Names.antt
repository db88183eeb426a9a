-- How an accepted request is addressed.
pub use Rattle.accepted_requests.specs.Names.{entry_at, entry_name, is_here, number_in}
