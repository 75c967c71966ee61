-- The plain machine of paper 02, ticket 1: interrupt sources of the POWER9 controller (XIVE) of source document 002.
-- Read the files from the first to the last. What a reader has to believe is these files and what they use of paper
-- 01's: bytes and `choose` (crates/rules/specs/Bytes), codes and outcomes (Outcome). The notation and the library
-- functions are explained in crates/rules/specs/Lib. What the code promises by them needs two files more: what the
-- numbers in the lent memory stand for (crates/xive_sources/specs/Stored), and the promises (crates/xive/specs).
--
-- Terms of 002, used here as it uses them: source (an interrupt source), type (MSI or LSI), level (the assertion level
-- of an LSI), server (the processor that handles the interrupt), priority, effective number (EISN, what the guest
-- reads), targeting (group 3, KVM_DEV_XIVE_GRP_SOURCE_CONFIG), masked.
pub mod Words
pub mod Sources
