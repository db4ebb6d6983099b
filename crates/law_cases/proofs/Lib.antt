mod Worked
mod WorkedInstructions
