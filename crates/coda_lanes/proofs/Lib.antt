mod Comparing
