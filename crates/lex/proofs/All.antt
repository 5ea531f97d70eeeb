-- This file is checked first: so the log of an edit of a definition that is refused begins with the token that the edit makes another one.
pub use Rattle.lex.proofs.Tokens.{tokens}
